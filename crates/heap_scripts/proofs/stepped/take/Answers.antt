use Rattle.std.proofs.Common.{◌≡◌, ◌++◌, List, refl, sym, ap, ◌∙◌, subst, rules}
use Rattle.errand_steps.specs.declared.told.Stepped.{Stepped}
use Rattle.errand_steps.specs.declared.told.Stepped.TheVariants as step
use Rattle.errand_steps.specs.Begins.{IsIdle}
use Rattle.errand_steps.specs.Calls.{Call, take}
use Rattle.live_heap.specs.declared.block.Block.{Block}
use Rattle.live_heap.specs.Answers.{HasStepped}
use Rattle.live_heap.specs.Hands.{IsHand, brought_in}
use Rattle.heap_scripts.proofs.stepped.take.Goals as goal

pub returns : goal.returns
returns c =
    let idle : IsIdle c.args.pass.now.errand = search rules in
    let p = c.args.pass.now in
    let b = c.begin_take.new.pass in
    let a = c.step.new.pass in
    let q = c.step-2.new.pass in
    let blocks = c.args.blocks.now.items in
    let call : Call = take c.args.shelf in
    let law = c.calls_go_step_by_step.ensures in
    let calling = law.begins c.args.heap.now p b call c.requires.of idle tt tt c.begin_take.ensures.begun in
    let first = c.step.ensures.busy calling.busy in
    let more = law.take p b a c.args.shelf c.step.result calling first in
    let on = law.goes_on p call 0 b a c.step.result calling first (λ (end, is). absurd (let e : step.More ≡ step.Done end = sym more ∙ is in cc)) in
    let done = law.last p call 1 a q c.step-2.result on refl (c.step-2.ensures.busy on.busy) in
    let stepped = subst (HasStepped a q) done.1 (c.step-2.ensures.busy on.busy) in
    subst (IsHand c.args.heap.now q)
    (sym (c.take_step.ensures ∙ ap (λ (l : List Block). l ++ brought_in c.step-2.result) c.reserve.ensures.items))
    (subst (λ (told : Stepped Block). IsHand c.args.heap.now q (blocks ++ brought_in told)) (sym done.1)
    (c.hands_go_through_calls.ensures.ended c.args.heap.now p q blocks call 1 done.0 c.requires.of (c.requires.holds idle) c.step-2.ensures.of
    (λ k d within. tt) (law.ends p call 1 a q done.0 on stepped) (law.tells c.args.heap.now p call 1 a q done.0 c.requires.of c.step.ensures.of c.step-2.ensures.of on stepped)))
