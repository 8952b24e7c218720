use Rattle.live_heap.proofs.TakenByRule.{taken-words}
use Rattle.live_heap.proofs.laws.words.taken_words_keep_the_rule.Goals as goal

pub returns : goal.returns
returns g c = taken-words g.R.ShelfRule.allows
