use Rattle.std.proofs.Common.{subst, sym}
use Rattle.heap_geometry.specs.declared.need.Need.{Need}
use Rattle.heap_geometry.specs.declared.need.Need.TheVariants.{Small}
use Rattle.errand_steps.specs.declared.continuation.Continuation.TheVariants.{Free}
use Rattle.errand_steps.specs.Calls.{Call, free}
use Rattle.errand_steps.proofs.BegunErrands.{free-errand}
use Rattle.live_heap.specs.Answers.{FreeTells, reply_in}
use Rattle.live_heap.specs.Calls.{GoesOn}
use Rattle.live_heap.specs.Going.{LinksNone, in_call}
use Rattle.live_heap.specs.Passes.{IsHome}
use Rattle.live_heap.proofs.Begun.{of-rule}
use Rattle.live_heap.proofs.FreeLemmas.{free-answers, free-calling, frees-from}
use Rattle.live_heap.proofs.WalkLemmas.{walk-begins, walk-goes}
use Rattle.live_heap.proofs.heap.Heap.free_small.Goals as goal

pub free_on-requires : goal.free_on-requires
free_on-requires g c =
    let r = c.requires in
    let p = c.args.pass.now in
    let place = c.args.block.place in
    let call : Call = free place (Small c.args.class) in
    let same = frees-from p place c.args.class c.free_from-prefix.result c.free_from-prefix.ensures in
    let rule = free-errand p.errand place (Small c.args.class) r.block (of-rule c.args.self.now p r.of) r.idle in
    λ κs within. (within, walk-begins p call p c.free_from-prefix.result Free same c.args.self.now c.args.tries r.of r.idle r.may (λ at same. subst (IsHome p) same r.home) r.idle rule r.tries (subst LinksNone (sym c.free_from-prefix.ensures) tt))

pub returns-clause-of : goal.returns-clause-of
returns-clause-of g c = c.free_on.ensures.1.of

pub returns-clause-tells : goal.returns-clause-tells
returns-clause-tells g c =
    let p = c.args.pass.now in
    let q = c.free_on.new.pass in
    let block = c.args.block in
    let call : Call = free block.place (Small c.args.class) in
    let same = frees-from p block.place c.args.class c.free_from-prefix.result c.free_from-prefix.ensures in
    let (told, gone, answers) = c.free_on.ensures in
    let goes = walk-goes p call p c.free_from-prefix.result Free same c.args.self.now c.args.tries told q
    (free-calling p block.place c.args.class c.requires.idle c.requires.block) gone in
    subst (λ a. FreeTells p block c.args.tries a q) (sym answers)
    (free-answers p block c.args.tries told q
    (subst (λ (n : Need). GoesOn p (free block.place n) 0 (in_call p (free block.place n)) c.args.tries (reply_in told) q) (sym c.requires.small) goes))
