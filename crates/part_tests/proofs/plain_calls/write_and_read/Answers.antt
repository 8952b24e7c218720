use Rattle.std.proofs.Common.{subst}
use Rattle.plain_pool.specs.declared.answers.PlainAlloc.{PlainAlloc}
use Rattle.plain_pool.specs.Answers.{IsAllocated}
use Rattle.plain_pool.proofs.AnswerLemmas.{given-word, written-word}
use Rattle.part_tests.proofs.plain_calls.write_and_read.Goals as goal

pub read-before-requires : goal.read-before-requires
read-before-requires c =
    given-word c.args.pool.now c.alloc.new.self 0 c.args.need c.in-Given.place c.in-Given.words c.args.i
    (subst (λ (a : PlainAlloc). IsAllocated c.args.pool.now c.alloc.new.self 0 c.args.need a) c.in-Given.is c.in_ok-place.ensures.ok)
    c.if-i-words.true

pub write-requires : goal.write-requires
write-requires c =
    given-word c.args.pool.now c.alloc.new.self 0 c.args.need c.in-Given.place c.in-Given.words c.args.i
    (subst (λ (a : PlainAlloc). IsAllocated c.args.pool.now c.alloc.new.self 0 c.args.need a) c.in-Given.is c.in_ok-place.ensures.ok)
    c.if-i-words.true

pub read-requires : goal.read-requires
read-requires c =
    written-word c.alloc.new.self c.write.new.self 0 c.in-Given.place c.args.i c.args.v c.in_ok-write.ensures.ok
    (given-word c.args.pool.now c.alloc.new.self 0 c.args.need c.in-Given.place c.in-Given.words c.args.i
    (subst (λ (a : PlainAlloc). IsAllocated c.args.pool.now c.alloc.new.self 0 c.args.need a) c.in-Given.is c.in_ok-place.ensures.ok)
    c.if-i-words.true)
