use Rattle.std.proofs.Common.{ap, ◌∙◌}
use Rattle.live_heap.specs.Pieces.{caller_mark, mark_place}
use Rattle.live_heap.proofs.Begun.{of-caller}
use Rattle.live_heap.proofs.Gathering.{nothing-out}
use Rattle.live_heap.proofs.heap.Heap.rest.Goals as goal

pub clear_mark-requires-clause-mark : goal.clear_mark-requires-clause-mark
clear_mark-requires-clause-mark g c =
    let h = c.args.self.now in
    let p = c.args.pass.now in
    let of = c.requires.of in
    record {
      before = of.before;
      one = of.one;
      lies = c.caller_mark-mark.ensures.place ∙ ap (λ n. mark_place h.layout (caller_mark h.layout n)) (c.caller.ensures.value ∙ of-caller h p of);
      home = nothing-out h p of c.if-pass-eq0.true;
    }

pub returns-then-pass-eq0 : goal.returns-then-pass-eq0
returns-then-pass-eq0 g c =
    let p = c.args.pass.now in
    let e = c.clear_mark.ensures in
    record { same = λ i. record { seat = record c.clear_mark.new.seat { region = e.seat.0 i; id = e.seat.1 i; me = e.same i }; errand = p.errand; out = p.out } }
