use Rattle.std.proofs.Common.{refl, arith, ap, ◌∙◌}
use Rattle.atomic_region.specs.Region.{Me}
use Rattle.live_heap.specs.declared.view.View.{View}
use Rattle.live_heap.proofs.LayLemmas.{has-next, knows-itself, knows-next, still-alone}
use Rattle.live_heap.proofs.heap.Heap.lay_pieces.Goals as goal

pub loop-piece-init : goal.loop-piece-init
loop-piece-init g c =
    let r = c.requires in
    record { region = refl; knows = knows-itself c.args.seat.now.me r.settled r.empty; ready = λ k from to. absurd (let no : ⊥ = omega (arith, from, to) in no) }

pub lay_piece-requires-clause-empty : goal.lay_piece-requires-clause-empty
lay_piece-requires-clause-empty g c = ap (λ (m : Me View). m.1) c.loop-piece.invariant.knows

pub lay_piece-requires-clause-settled : goal.lay_piece-requires-clause-settled
lay_piece-requires-clause-settled g c = ap (λ (m : Me View). m.0.lays) c.loop-piece.invariant.knows

pub lay_piece-requires-clause-opens : goal.lay_piece-requires-clause-opens
lay_piece-requires-clause-opens g c =
    let k = c.loop-piece.piece in
    still-alone c.args.self.now.layout c.args.seat.now.me c.loop-piece.seat.me k c.loop-piece.invariant.knows
    (c.requires.opens k c.loop-piece.auto.piece c.loop-piece-test.true)

pub loop-piece-preserved : goal.loop-piece-preserved
loop-piece-preserved g c =
    let i = c.loop-piece.invariant in
    let piece = c.loop-piece.piece in
    let me = c.loop-piece.seat.me in
    let after = c.lay_piece.new.seat.me in
    let laid = c.lay_piece.ensures.laid in
    record {
      region = c.lay_piece.ensures.region ∙ i.region;
      knows = knows-next piece c.args.seat.now.me me after i.knows laid;
      ready = λ k from to. has-next piece k me after laid (λ before. i.ready k from before) to;
    }

pub returns-clause-ready : goal.returns-clause-ready
returns-clause-ready g c k from to = c.loop-piece.invariant.ready k from (omega (arith, to, c.loop-piece-test.false))
