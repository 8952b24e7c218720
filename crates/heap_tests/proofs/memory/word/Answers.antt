use Rattle.errand_steps.specs.declared.reply.Reply.TheVariants as reply
use Rattle.errand_steps.specs.Calls.{read}
use Rattle.live_heap.proofs.laws_for_builders.Keeping.{called-keeps}
use Rattle.heap_tests.proofs.memory.word.Goals as goal

pub returns-then-i-usable_words-clause-owned : goal.returns-then-i-usable_words-clause-owned
returns-then-i-usable_words-clause-owned c =
    let b = c.args.block.now in
    called-keeps c.args.heap.now c.args.pass.now c.read.new.pass (read b.place b.need c.args.i) 0 (reply.Word c.read.result) b c.requires.of c.read.ensures.of
    c.read.ensures.called tt c.requires.owned
