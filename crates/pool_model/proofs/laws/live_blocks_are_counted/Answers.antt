use Rattle.pool_model.specs.declared.event.Event.TheVariants.{Alloc, Free}
use Rattle.pool_model.specs.Pool.{pool_of}
use Rattle.pool_model.proofs.HistoryLemmas.{pool_of-push}
use Rattle.pool_model.proofs.CountLemmas.{length-live, live_words-alloc, live_words-without, live_words-still}
use Rattle.pool_model.proofs.laws.live_blocks_are_counted.Goals as goal

pub returns-clause-blocks : goal.returns-clause-blocks
returns-clause-blocks c = length-live

pub returns-clause-words_given : goal.returns-clause-words_given
returns-clause-words_given c = λ history caller need place.
    rw (pool_of-push history (Alloc caller need place)) (live_words-alloc (pool_of history) caller need place)

pub returns-clause-words_freed : goal.returns-clause-words_freed
returns-clause-words_freed c = λ history caller place block found.
    rw (pool_of-push history (Free caller place)) (live_words-without place (pool_of history) block found)

pub returns-clause-words_kept : goal.returns-clause-words_kept
returns-clause-words_kept c = λ history event no_alloc no_free.
    rw (pool_of-push history event) (live_words-still (pool_of history) event no_alloc no_free)
