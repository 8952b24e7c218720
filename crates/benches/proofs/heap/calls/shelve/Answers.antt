use Rattle.std.proofs.Common.{◌∙◌}
use Rattle.errand_steps.specs.declared.reply.Reply.TheVariants as reply
use Rattle.errand_steps.specs.Calls.{put}
use Rattle.benches.proofs.MadeLemmas.{made-none, made-freed, same-out}
use Rattle.benches.proofs.heap.calls.shelve.Goals as goal

pub returns-in-Ok : goal.returns-in-Ok
returns-in-Ok g c =
    let block = c.args.block in
    made-none c.passes_keep_their_blocks.ensures.called c.args.heap.now c.args.pass.now c.put.new.pass (put block.place block.need c.args.shelf) 0
    c.requires.rests c.put.ensures.of reply.Put c.in-Ok.ensures.put

pub release-requires-clause-rests : goal.release-requires-clause-rests
release-requires-clause-rests g c =
    let called = c.in-Err.ensures.full.called in (
      c.put.ensures.of,
      called.idle,
      same-out c.args.heap.now c.args.pass.now c.put.new.pass c.requires.rests.0 c.put.ensures.of called.lent ∙ c.requires.rests.2,
    )

pub returns-in-Err : goal.returns-in-Err
returns-in-Err g c =
    made-freed c.passes_keep_their_blocks.ensures.called c.args.heap.now c.args.pass.now c.put.new.pass c.release.new.pass c.args.block c.args.shelf
    c.in-Err.full c.requires.rests.0 c.put.ensures.of c.in-Err.ensures.full c.release.ensures
