use Rattle.typed_store.proofs.LedLemmas.{led-accesses, led-events, led-grows}
use Rattle.typed_store.proofs.laws.words_take_one_access_each.Goals as goal

pub returns-clause-grows : goal.returns-clause-grows
returns-clause-grows c = led-grows

pub returns-clause-accesses : goal.returns-clause-accesses
returns-clause-accesses c = led-accesses

pub returns-clause-events : goal.returns-clause-events
returns-clause-events c = led-events
