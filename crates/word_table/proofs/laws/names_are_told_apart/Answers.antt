use Rattle.word_table.proofs.NameLemmas.{cases_name}
use Rattle.word_table.proofs.laws.names_are_told_apart.Goals as goal

pub returns : goal.returns
returns c = cases_name
