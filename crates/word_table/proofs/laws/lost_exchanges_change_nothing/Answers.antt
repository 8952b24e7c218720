use Rattle.word_table.proofs.ActionLemmas.{after_action-lost}
use Rattle.word_table.proofs.laws.lost_exchanges_change_nothing.Goals as goal

pub returns : goal.returns
returns c = after_action-lost
