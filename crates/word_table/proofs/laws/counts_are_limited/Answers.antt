use Rattle.word_table.proofs.CountLemmas.{descriptor_count_within, word_count_within}
use Rattle.word_table.proofs.laws.counts_are_limited.Goals as goal

pub returns-clause-descriptors : goal.returns-clause-descriptors
returns-clause-descriptors c = descriptor_count_within

pub returns-clause-words : goal.returns-clause-words
returns-clause-words c = word_count_within
