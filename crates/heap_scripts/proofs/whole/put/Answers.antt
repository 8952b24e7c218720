use Rattle.std.proofs.Common.{◌<◌, length, sym, subst, rules}
use Rattle.errand_steps.specs.Begins.{IsIdle}
use Rattle.live_heap.specs.Hands.{IsHand}
use Rattle.heap_scripts.proofs.whole.put.Goals as goal

pub put-answer-requires-clause-owned : goal.put-answer-requires-clause-owned
put-answer-requires-clause-owned c =
    let idle : IsIdle c.args.pass.now.errand = search rules in
    let within : c.args.number < length c.args.blocks.now.items = search rules in
    c.hands_give_out_blocks.ensures.owned c.args.pass.now c.args.blocks.now.items c.args.number c.remove-block.result within
    c.remove-block.ensures.value (c.requires.hand.holds idle)

pub returns : goal.returns
returns c =
    let idle : IsIdle c.args.pass.now.errand = search rules in
    let within : c.args.number < length c.args.blocks.now.items = search rules in
    subst (IsHand c.args.heap.now c.put-answer.new.pass) (sym c.take_returned.ensures)
    (c.hands_go_through_calls.ensures.put c.args.heap.now c.args.pass.now c.put-answer.new.pass c.remove-block.result c.remove-block.new.self.items
    c.args.shelf c.put-answer.result c.requires.hand.of
    (c.hands_give_out_blocks.ensures.removed c.args.pass.now c.args.blocks.now.items c.remove-block.new.self.items c.args.number
    c.remove-block.result within c.remove-block.ensures.value c.remove-block.ensures.by_index.2 (c.requires.hand.holds idle))
    c.put-answer.ensures.of c.put-answer.ensures.put c.put-answer.ensures.full)
