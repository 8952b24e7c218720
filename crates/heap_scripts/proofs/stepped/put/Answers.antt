use Rattle.std.proofs.Common.{◌<◌, ◌++◌, length, refl, sym, subst, rules}
use Rattle.errand_steps.specs.declared.told.Stepped.{Stepped}
use Rattle.errand_steps.specs.Begins.{IsIdle}
use Rattle.errand_steps.specs.Calls.{Call, put}
use Rattle.live_heap.specs.declared.block.Block.{Block}
use Rattle.live_heap.specs.Answers.{HasStepped}
use Rattle.live_heap.specs.Hands.{IsHand, brought_in}
use Rattle.heap_scripts.proofs.stepped.put.Goals as goal

pub begin_put-requires-clause-owned : goal.begin_put-requires-clause-owned
begin_put-requires-clause-owned c =
    let idle : IsIdle c.args.pass.now.errand = search rules in
    let within : c.args.number < length c.args.blocks.now.items = search rules in
    c.hands_give_out_blocks.ensures.owned c.args.pass.now c.args.blocks.now.items c.args.number c.remove-block.result within c.remove-block.ensures.value (c.requires.holds idle)

pub returns : goal.returns
returns c =
    let idle : IsIdle c.args.pass.now.errand = search rules in
    let within : c.args.number < length c.args.blocks.now.items = search rules in
    let out =
    c.hands_give_out_blocks.ensures.removed c.args.pass.now c.args.blocks.now.items c.remove-block.new.self.items c.args.number
    c.remove-block.result within c.remove-block.ensures.value c.remove-block.ensures.by_index.2 (c.requires.holds idle) in
    let p = c.args.pass.now in
    let b = c.begin_put.new.pass in
    let q = c.step.new.pass in
    let call : Call = put c.remove-block.result.place c.remove-block.result.need c.args.shelf in
    let law = c.calls_go_step_by_step.ensures in
    let calling = law.begins c.args.heap.now p b call c.requires.of idle out.0 tt c.begin_put.ensures.begun in
    let done = law.last p call 0 b q c.step.result calling refl (c.step.ensures.busy calling.busy) in
    let stepped = subst (HasStepped b q) done.1 (c.step.ensures.busy calling.busy) in
    let rest = c.remove-block.new.self.items in
    subst (IsHand c.args.heap.now q) (sym c.take_step.ensures)
    (subst (λ (told : Stepped Block). IsHand c.args.heap.now q (rest ++ brought_in told)) (sym done.1)
    (c.hands_go_through_calls.ensures.ended c.args.heap.now p q rest call 0 done.0 c.requires.of out.2 c.step.ensures.of out.1
    (law.ends p call 0 b q done.0 calling stepped) (law.tells c.args.heap.now p call 0 b q done.0 c.requires.of c.begin_put.ensures.of c.step.ensures.of calling stepped)))
