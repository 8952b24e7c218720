use Rattle.errand_steps.specs.declared.reply.Reply.TheVariants as reply
use Rattle.errand_steps.specs.Calls.{take}
use Rattle.benches.proofs.MadeLemmas.{made-got, made-none}
use Rattle.benches.proofs.heap.calls.fetch.Goals as goal

pub returns-in-Got : goal.returns-in-Got
returns-in-Got c =
    let k = c.passes_keep_their_blocks.ensures in
    let t = c.in-Got.ensures.tells in
    made-got k.called c.args.heap.now c.args.pass.now c.take.new.pass (take c.args.shelf) 1 c.requires.rests c.take.ensures.of k.got c.in-Got.block t.0 t.1

pub returns-in-Empty : goal.returns-in-Empty
returns-in-Empty c =
    made-none c.passes_keep_their_blocks.ensures.called c.args.heap.now c.args.pass.now c.take.new.pass (take c.args.shelf) 1 c.requires.rests
    c.take.ensures.of reply.Empty c.in-Empty.ensures.tells

pub returns-in-Missed : goal.returns-in-Missed
returns-in-Missed c =
    made-none c.passes_keep_their_blocks.ensures.called c.args.heap.now c.args.pass.now c.take.new.pass (take c.args.shelf) 1 c.requires.rests
    c.take.ensures.of _ c.in-Missed.ensures.tells.0
