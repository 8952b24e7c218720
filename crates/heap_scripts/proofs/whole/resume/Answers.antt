use Rattle.std.proofs.Common.{◌++◌, List, sym, ap, ◌∙◌, subst, rules}
use Rattle.errand_steps.specs.Begins.{IsBusy}
use Rattle.live_heap.specs.declared.block.Block.{Block}
use Rattle.live_heap.specs.Hands.{IsHand, resumed_by}
use Rattle.heap_scripts.proofs.whole.resume.Goals as goal

pub returns : goal.returns
returns c =
    let busy : IsBusy c.args.pass.now.errand = search rules in
    subst (IsHand c.args.heap.now c.resume-answer.new.pass)
    (sym (c.take_resumed.ensures ∙ ap (λ (blocks : List Block). blocks ++ resumed_by c.resume-answer.result) c.reserve.ensures.items))
    (c.hands_go_through_calls.ensures.resumed c.args.heap.now c.args.pass.now c.resume-answer.new.pass c.args.blocks.now.items c.args.tries
    c.resume-answer.result c.requires.hand busy c.resume-answer.ensures.of c.resume-answer.ensures.tells)
