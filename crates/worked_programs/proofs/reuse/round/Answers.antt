use Rattle.worked_programs.specs.declared.embedded.Stop.{Stop}
use Rattle.worked_programs.proofs.EmbeddedCalls.{err-as}
use Rattle.worked_programs.proofs.ReuseCalls.{alloc-stops, free-stops, given-held, given-word, round-made, round-read, round-written}
use Rattle.worked_programs.specs.Reuse.{HasStopped}
use Rattle.worked_programs.proofs.reuse.round.Goals as goal

pub returns-in_err-block-clause-stopped : goal.returns-in_err-block-clause-stopped
returns-in_err-block-clause-stopped c =
    let h = c.args.heap.now in
    let before = c.args.cache.now in
    let after = c.allocate.new.cache in
    let word = c.args.word in
    let told = c.in_err-block.field-0.0 in
    err-as c.from_residual.result told (λ (s : Stop). HasStopped h before word s after) c.from_residual.ensures.1
    (alloc-stops h before after word told c.in_err-block.ensures.stopped)

pub write-requires-clause-held : goal.write-requires-clause-held
write-requires-clause-held c =
    let b = c.in_ok-block.block in
    given-held c.args.heap.now c.args.cache.now c.allocate.new.cache b.place b.need c.whole_calls_keep_blocks.ensures.hands c.in_ok-block.ensures.given

pub write-requires-clause-word : goal.write-requires-clause-word
write-requires-clause-word c =
    let b = c.in_ok-block.block in
    given-word c.args.heap.now c.args.cache.now c.allocate.new.cache b.place b.need c.whole_calls_keep_blocks.ensures.serves c.in_ok-block.ensures.given

pub read-read-requires-clause-held : goal.read-read-requires-clause-held
read-read-requires-clause-held c =
    let b = c.in_ok-block.block in
    let law = c.whole_calls_keep_blocks.ensures in
    let wrote =
    round-written c.args.heap.now c.args.cache.now c.allocate.new.cache c.write.new.self b.place b.need c.args.word c.ended_calls_are_whole.ensures.asked
    law.keeps law.hands c.in_ok-block.ensures.given c.write.ensures.cache c.write.ensures.called c.write.ensures.keeps in
    wrote.1

pub read-read-requires-clause-word : goal.read-read-requires-clause-word
read-read-requires-clause-word c =
    let b = c.in_ok-block.block in
    given-word c.args.heap.now c.args.cache.now c.allocate.new.cache b.place b.need c.whole_calls_keep_blocks.ensures.serves c.in_ok-block.ensures.given

pub give_back-requires-clause-held : goal.give_back-requires-clause-held
give_back-requires-clause-held c =
    let h = c.args.heap.now in
    let b = c.in_ok-block.block in
    let law = c.whole_calls_keep_blocks.ensures in
    let words = c.written_words_stay.ensures in
    let found =
    round-read h c.args.cache.now c.allocate.new.cache c.write.new.self c.read-read.new.self b.place b.need c.args.word c.read-read.result
    c.ended_calls_are_whole.ensures.asked law.keeps law.hands words.wrote words.read c.in_ok-block.ensures.given c.write.ensures.cache
    c.write.ensures.called c.write.ensures.keeps c.read-read.ensures.cache c.read-read.ensures.called c.read-read.ensures.keeps
    c.read-read.ensures.contents in
    found.2

pub returns-in_err-give_back-clause-stopped : goal.returns-in_err-give_back-clause-stopped
returns-in_err-give_back-clause-stopped c =
    let h = c.args.heap.now in
    let b = c.in_ok-block.block in
    let law = c.whole_calls_keep_blocks.ensures in
    let words = c.written_words_stay.ensures in
    let found =
    round-read h c.args.cache.now c.allocate.new.cache c.write.new.self c.read-read.new.self b.place b.need c.args.word c.read-read.result
    c.ended_calls_are_whole.ensures.asked law.keeps law.hands words.wrote words.read c.in_ok-block.ensures.given c.write.ensures.cache
    c.write.ensures.called c.write.ensures.keeps c.read-read.ensures.cache c.read-read.ensures.called c.read-read.ensures.keeps
    c.read-read.ensures.contents in
    let before = c.args.cache.now in
    let after = c.give_back.new.cache in
    let word = c.args.word in
    let told = c.in_err-give_back.field-0.0 in
    err-as c.from_residual-in_err-give_back.result told (λ (s : Stop). HasStopped h before word s after) c.from_residual-in_err-give_back.ensures.1
    (free-stops h before c.allocate.new.cache c.write.new.self c.read-read.new.self after b.place b.need word c.read-read.result told law.serves
    found.3 c.in_ok-block.ensures.given found.0 found.1 c.in_err-give_back.ensures.stopped)

pub returns-clause-same : goal.returns-clause-same
returns-clause-same c =
    let h = c.args.heap.now in
    let b = c.in_ok-block.block in
    let law = c.whole_calls_keep_blocks.ensures in
    let words = c.written_words_stay.ensures in
    let found =
    round-read h c.args.cache.now c.allocate.new.cache c.write.new.self c.read-read.new.self b.place b.need c.args.word c.read-read.result
    c.ended_calls_are_whole.ensures.asked law.keeps law.hands words.wrote words.read c.in_ok-block.ensures.given c.write.ensures.cache
    c.write.ensures.called c.write.ensures.keeps c.read-read.ensures.cache c.read-read.ensures.called c.read-read.ensures.keeps
    c.read-read.ensures.contents in
    found.3

pub returns-clause-made : goal.returns-clause-made
returns-clause-made c =
    let h = c.args.heap.now in
    let b = c.in_ok-block.block in
    let law = c.whole_calls_keep_blocks.ensures in
    let words = c.written_words_stay.ensures in
    let found =
    round-read h c.args.cache.now c.allocate.new.cache c.write.new.self c.read-read.new.self b.place b.need c.args.word c.read-read.result
    c.ended_calls_are_whole.ensures.asked law.keeps law.hands words.wrote words.read c.in_ok-block.ensures.given c.write.ensures.cache
    c.write.ensures.called c.write.ensures.keeps c.read-read.ensures.cache c.read-read.ensures.called c.read-read.ensures.keeps
    c.read-read.ensures.contents in
    round-made h c.args.cache.now c.allocate.new.cache c.write.new.self c.read-read.new.self c.give_back.new.cache b.place b.need c.args.word
    c.read-read.result law.serves found.3 c.in_ok-block.ensures.given found.0 found.1 c.in_ok-give_back.ensures.freed
