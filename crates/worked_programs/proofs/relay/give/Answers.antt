use Rattle.std.proofs.Common.{◌≤◌, Some, ap, ◌∙◌, arith}
use Rattle.heap_geometry.specs.Need.{usable_words}
use Rattle.errand_steps.specs.declared.reply.Reply.TheVariants as reply
use Rattle.errand_steps.specs.Calls.{write}
use Rattle.worked_programs.proofs.RelayWords.{may-lie}
use Rattle.worked_programs.proofs.relay.give.Goals as goal

pub write-requires-clause-word : goal.write-requires-clause-word
write-requires-clause-word g c =
    let block = c.in-Given.block in
    let ends = c.in-Given.ensures.tells.0 in
    let enough : 1 ≤ usable_words block.need =
    c.given_blocks_have_enough_words.ensures c.args.pass c.alloc.new.pass 1 ends.steps block.place block.need ends.called in
    omega (arith, enough)

pub send-requires-clause-owned : goal.send-requires-clause-owned
send-requires-clause-owned g c =
    let block = c.in-Given.block in
    c.passes_keep_their_blocks.ensures.called c.args.heap.now c.alloc.new.pass c.write.new.pass (write block.place block.need 0 c.args.word) 0
    reply.Wrote block c.in-Given.ensures.of c.write.ensures.of c.write.ensures.called tt c.in-Given.ensures.tells.1

pub send-requires-clause-words : goal.send-requires-clause-words
send-requires-clause-words g c =
    let block = c.in-Given.block in
    let q = c.write.new.pass in
    let ends = c.in-Given.ensures.tells.0 in
    let enough : 1 ≤ usable_words block.need =
    c.given_blocks_have_enough_words.ensures c.args.pass c.alloc.new.pass 1 ends.steps block.place block.need ends.called in
    let owned =
    c.passes_keep_their_blocks.ensures.called c.args.heap.now c.alloc.new.pass q (write block.place block.need 0 c.args.word) 0
    reply.Wrote block c.in-Given.ensures.of c.write.ensures.of c.write.ensures.called tt c.in-Given.ensures.tells.1 in
    let holds =
    c.written_words_stay.ensures.wrote c.args.heap.now c.alloc.new.pass q block.place block.need 0 c.args.word 0 c.write.ensures.of c.write.ensures.called in
    may-lie g.C.Carried.word 0 q block owned (omega (arith, enough)) (holds ∙ ap Some c.requires.word)
