use Rattle.live_heap.proofs.placement_lemmas.PlaceLemmas.{place-within}
use Rattle.live_heap.proofs.placement_lemmas.WordsLemmas.{at-words_at, length-words_at, set-words_at}
use Rattle.live_heap.proofs.placement.laws.places_hold_the_table.Goals as goal

pub returns-clause-within : goal.returns-clause-within
returns-clause-within c = place-within

pub returns-clause-whole : goal.returns-clause-whole
returns-clause-whole c = length-words_at

pub returns-clause-word : goal.returns-clause-word
returns-clause-word c = at-words_at

pub returns-clause-change : goal.returns-clause-change
returns-clause-change c = set-words_at
