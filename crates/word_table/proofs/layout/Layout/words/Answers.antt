use Rattle.std.proofs.Common.{arith}
use Rattle.word_table.proofs.CountLemmas.{word_count_within}
use Rattle.word_table.proofs.TableLemmas.{start_of-Shelves}
use Rattle.word_table.proofs.layout.Layout.words.Goals as goal

pub returns-clause-value : goal.returns-clause-value
returns-clause-value c = rw (← c.self.view_is) (omega (arith, start_of-Shelves c.self.inside.geometry))

pub overflow_add-result : goal.overflow_add-result
overflow_add-result c = omega (arith, start_of-Shelves c.self.inside.geometry, word_count_within c.self.inside.geometry c.self.invariant.0)

pub returns-clause-within : goal.returns-clause-within
returns-clause-within c = omega (arith, start_of-Shelves c.self.inside.geometry, word_count_within c.self.inside.geometry c.self.invariant.0)
