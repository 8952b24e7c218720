use Rattle.word_table.proofs.TableLemmas.{word_index-within, word_name-word_index, word_name-Exists, word_index-word_name, word_index-one}
use Rattle.word_table.proofs.laws.places_are_exact.Goals as goal

pub returns-clause-within : goal.returns-clause-within
returns-clause-within c = word_index-within

pub returns-clause-back : goal.returns-clause-back
returns-clause-back c = word_name-word_index

pub returns-clause-exists : goal.returns-clause-exists
returns-clause-exists c = word_name-Exists

pub returns-clause-forth : goal.returns-clause-forth
returns-clause-forth c = word_index-word_name

pub returns-clause-apart : goal.returns-clause-apart
returns-clause-apart c = λ g m n is_m is_n differ same. differ (word_index-one g m n is_m is_n same)
