use Rattle.errand_steps.proofs.StayLemmas.{word_ends}
use Rattle.errand_steps.proofs.enter.large.ending_on_word.Goals as goal

pub returns-in_ok-exit_on_word-in-Large : goal.returns-in_ok-exit_on_word-in-Large
returns-in_ok-exit_on_word-in-Large c =
    rw (c.in-Large.is)
    (word_ends c.in-Large.at c.in-Large.continuation c.args.found c.exit_on_word.result c.in_ok-exit_on_word-in-Large.field-0 c.ended.result
    c.exit_on_word.ensures c.in_ok-exit_on_word-in-Large.was (c.ended.ensures c.in-Large.continuation))
