use Rattle.std.proofs.Common.{subst}
use Rattle.plain_pool.specs.declared.answers.PlainTake.{PlainTake}
use Rattle.plain_pool.specs.Answers.{IsTaken}
use Rattle.plain_pool.proofs.AnswerLemmas.{taken-owns}
use Rattle.part_tests.proofs.plain_calls.unshelve.Goals as goal

pub free-requires : goal.free-requires
free-requires c =
    taken-owns c.args.pool.now c.take.new.self 0 c.args.shelf c.in-Got.place c.in-Got.words
    (subst (λ (a : PlainTake). IsTaken c.args.pool.now c.take.new.self 0 c.args.shelf a) c.in-Got.is c.in_ok-answer.ensures.ok)
