use Rattle.std.proofs.Common.{suc}
use Rattle.errand_steps.specs.declared.reply.Reply.TheVariants as reply
use Rattle.errand_steps.specs.Calls.{free}
use Rattle.benches.proofs.MadeLemmas.{made-none, made-without}
use Rattle.benches.proofs.heap.calls.release.Goals as goal

pub returns-in-Freed : goal.returns-in-Freed
returns-in-Freed g c =
    let t = c.in-Freed.ensures.tells in
    let block = c.args.block in
    made-none c.passes_keep_their_blocks.ensures.called c.args.heap.now c.args.pass.now c.free.new.pass (free block.place block.need) t.steps
    c.requires.rests c.free.ensures.of reply.Freed t.called

pub finish-requires-clause-under_way : goal.finish-requires-clause-under_way
finish-requires-clause-under_way g c =
    let t = c.in-Busy.ensures.tells in
    let block = c.args.block in
    record { first = c.args.pass.now; rests = c.requires.rests; call = free block.place block.need; steps = suc t.steps; calling = t.calling; tried = tt }

pub returns-in-Busy : goal.returns-in-Busy
returns-in-Busy g c =
    let t = c.in-Busy.ensures.tells in
    let block = c.args.block in
    let call = free block.place block.need in
    made-without c.args.heap.now c.args.pass.now c.finish.new.pass call c.finish.result
    (c.finish.ensures c.args.pass.now call (suc t.steps) c.requires.rests t.calling)
