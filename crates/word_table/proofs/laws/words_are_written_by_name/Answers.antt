use Rattle.word_table.proofs.WordLemmas.{word_in-there, word_in-nowhere, Writes-set, one_table}
use Rattle.word_table.proofs.laws.words_are_written_by_name.Goals as goal

pub returns-clause-there : goal.returns-clause-there
returns-clause-there c = word_in-there

pub returns-clause-nowhere : goal.returns-clause-nowhere
returns-clause-nowhere c = word_in-nowhere

pub returns-clause-writes : goal.returns-clause-writes
returns-clause-writes c = Writes-set

pub returns-clause-one_table : goal.returns-clause-one_table
returns-clause-one_table c = one_table
