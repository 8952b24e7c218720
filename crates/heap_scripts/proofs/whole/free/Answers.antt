use Rattle.std.proofs.Common.{◌<◌, length, rules}
use Rattle.errand_steps.specs.Begins.{IsIdle}
use Rattle.heap_scripts.proofs.whole.free.Goals as goal

pub free-requires-clause-owned : goal.free-requires-clause-owned
free-requires-clause-owned c =
    let idle : IsIdle c.args.pass.now.errand = search rules in
    let within : c.args.number < length c.args.blocks.now.items = search rules in
    c.hands_give_out_blocks.ensures.owned c.args.pass.now c.args.blocks.now.items c.args.number c.remove-block.result within
    c.remove-block.ensures.value (c.requires.hand.holds idle)

pub returns : goal.returns
returns c =
    let idle : IsIdle c.args.pass.now.errand = search rules in
    let within : c.args.number < length c.args.blocks.now.items = search rules in
    c.hands_go_through_calls.ensures.free c.args.heap.now c.args.pass.now c.free.new.pass c.remove-block.result c.remove-block.new.self.items
    c.args.tries c.free.result c.requires.hand.of
    (c.hands_give_out_blocks.ensures.removed c.args.pass.now c.args.blocks.now.items c.remove-block.new.self.items c.args.number
    c.remove-block.result within c.remove-block.ensures.value c.remove-block.ensures.by_index.2 (c.requires.hand.holds idle))
    c.free.ensures.of c.free.ensures.tells
