use Rattle.errand_steps.specs.declared.reply.Reply.TheVariants as reply
use Rattle.errand_steps.specs.Calls.{read}
use Rattle.worked_programs.proofs.RelayWords.{has-word}
use Rattle.worked_programs.proofs.relay.take.Goals as goal

pub free-requires-clause-owned : goal.free-requires-clause-owned
free-requires-clause-owned g c =
    let block = c.in-Got.block in
    c.passes_keep_their_blocks.ensures.called c.args.heap.now c.recv.new.pass c.read-word.new.pass (read block.place block.need 0) 0
    (reply.Word c.read-word.result) block c.in-Got.ensures.of c.read-word.ensures.of c.read-word.ensures.called tt c.in-Got.ensures.tells.2.1

pub read-word-requires-clause-word : goal.read-word-requires-clause-word
read-word-requires-clause-word g c =
    let block = c.in-Got.block in
    (has-word g.C.Carried.word 0 c.recv.new.pass block c.in-Got.ensures.tells.2.1 c.in-Got.ensures.words).0

pub returns-in-Got-clause-word : goal.returns-in-Got-clause-word
returns-in-Got-clause-word g c =
    let block = c.in-Got.block in
    let p = c.recv.new.pass in
    let q = c.read-word.new.pass in
    let has = has-word g.C.Carried.word 0 p block c.in-Got.ensures.tells.2.1 c.in-Got.ensures.words in
    c.written_words_stay.ensures.read c.args.heap.now p q block.place block.need 0 0 c.read-word.result g.C.Carried.word c.read-word.ensures.of
    c.read-word.ensures.called c.read-word.ensures.contents has.1
