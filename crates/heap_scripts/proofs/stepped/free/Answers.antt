use Rattle.std.proofs.Common.{◌<◌, length, rules}
use Rattle.errand_steps.specs.Begins.{IsIdle}
use Rattle.errand_steps.specs.Calls.{Call, free}
use Rattle.heap_scripts.proofs.stepped.free.Goals as goal

pub begin_free-requires-clause-owned : goal.begin_free-requires-clause-owned
begin_free-requires-clause-owned c =
    let idle : IsIdle c.args.pass.now.errand = search rules in
    let within : c.args.number < length c.args.blocks.now.items = search rules in
    c.hands_give_out_blocks.ensures.owned c.args.pass.now c.args.blocks.now.items c.args.number c.remove-block.result within c.remove-block.ensures.value (c.requires.holds idle)

pub go_on-requires-clause-hand : goal.go_on-requires-clause-hand
go_on-requires-clause-hand c =
    let idle : IsIdle c.args.pass.now.errand = search rules in
    let within : c.args.number < length c.args.blocks.now.items = search rules in
    let block = c.remove-block.result in
    let call : Call = free block.place block.need in
    let out =
    c.hands_give_out_blocks.ensures.removed c.args.pass.now c.args.blocks.now.items c.remove-block.new.self.items c.args.number
    c.remove-block.result within c.remove-block.ensures.value c.remove-block.ensures.by_index.2 (c.requires.holds idle) in
    let calling = c.calls_go_step_by_step.ensures.begins c.args.heap.now c.args.pass.now c.begin_free.new.pass call c.requires.of idle out.0 tt c.begin_free.ensures.begun in
    c.hands_go_through_steps.ensures.begun c.args.heap.now c.args.pass.now c.begin_free.new.pass c.remove-block.new.self.items call c.requires.of out.2
    c.begin_free.ensures.of out.1 tt calling

pub go_on-requires-clause-busy : goal.go_on-requires-clause-busy
go_on-requires-clause-busy c =
    let idle : IsIdle c.args.pass.now.errand = search rules in
    let within : c.args.number < length c.args.blocks.now.items = search rules in
    let block = c.remove-block.result in
    let out =
    c.hands_give_out_blocks.ensures.removed c.args.pass.now c.args.blocks.now.items c.remove-block.new.self.items c.args.number
    c.remove-block.result within c.remove-block.ensures.value c.remove-block.ensures.by_index.2 (c.requires.holds idle) in
    (c.calls_go_step_by_step.ensures.begins c.args.heap.now c.args.pass.now c.begin_free.new.pass (free block.place block.need) c.requires.of idle out.0 tt c.begin_free.ensures.begun).busy
