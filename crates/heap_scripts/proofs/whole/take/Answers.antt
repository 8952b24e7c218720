use Rattle.std.proofs.Common.{◌++◌, List, sym, ap, ◌∙◌, subst, rules}
use Rattle.errand_steps.specs.Begins.{IsIdle}
use Rattle.live_heap.specs.declared.block.Block.{Block}
use Rattle.live_heap.specs.Hands.{IsHand, taken_by}
use Rattle.heap_scripts.proofs.whole.take.Goals as goal

pub returns : goal.returns
returns c =
    let idle : IsIdle c.args.pass.now.errand = search rules in
    subst (IsHand c.args.heap.now c.take-answer.new.pass)
    (sym (c.take_got.ensures ∙ ap (λ (blocks : List Block). blocks ++ taken_by c.take-answer.result) c.reserve.ensures.items))
    (c.hands_go_through_calls.ensures.take c.args.heap.now c.args.pass.now c.take-answer.new.pass c.args.blocks.now.items c.args.shelf
    c.take-answer.result c.requires.hand.of (c.requires.hand.holds idle) c.take-answer.ensures.of c.take-answer.ensures.tells)
