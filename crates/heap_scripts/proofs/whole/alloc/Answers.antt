use Rattle.std.proofs.Common.{◌++◌, List, sym, ap, ◌∙◌, subst, rules}
use Rattle.errand_steps.specs.Begins.{IsIdle}
use Rattle.live_heap.specs.declared.block.Block.{Block}
use Rattle.live_heap.specs.Hands.{IsHand, given_by}
use Rattle.heap_scripts.proofs.whole.alloc.Goals as goal

pub returns : goal.returns
returns c =
    let idle : IsIdle c.args.pass.now.errand = search rules in
    subst (IsHand c.args.heap.now c.alloc-answer.new.pass)
    (sym (c.take_given.ensures ∙ ap (λ (blocks : List Block). blocks ++ given_by c.alloc-answer.result) c.reserve.ensures.items))
    (c.hands_go_through_calls.ensures.alloc c.args.heap.now c.args.pass.now c.alloc-answer.new.pass c.args.blocks.now.items c.args.need c.args.tries
    c.alloc-answer.result c.requires.hand idle c.alloc-answer.ensures.of c.alloc-answer.ensures.tells)
