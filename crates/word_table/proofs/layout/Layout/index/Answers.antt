use Rattle.std.proofs.Common.{arith}
use Rattle.heap_geometry.specs.Geometry.{IsChecked}
use Rattle.word_table.proofs.CountLemmas.{word_count_within}
use Rattle.word_table.proofs.StartLemmas.{index-is}
use Rattle.word_table.proofs.TableLemmas.{word_index-within, word_name-word_index}
use Rattle.word_table.proofs.layout.Layout.index.Goals as goal

pub returns-clause-place : goal.returns-clause-place
returns-clause-place c =
    index-is c.self.inside.geometry c.args.self.now c.args.name c.self.inside.starts c.group_of.result c.group_number.result c.offset_of.result
    c.self.invariant.1 c.self.view_is c.group_of.ensures c.group_number.ensures.value c.offset_of.ensures

pub overflow_add-result : goal.overflow_add-result
overflow_add-result c =
    let checked : IsChecked c.args.self.now = rw (← c.self.view_is) c.self.invariant.0 in
    omega (arith, returns-clause-place c, word_index-within c.args.self.now c.args.name c.requires, word_count_within c.args.self.now checked)

pub returns-clause-within : goal.returns-clause-within
returns-clause-within c = rw (returns-clause-place c) (word_index-within c.args.self.now c.args.name c.requires)

pub returns-clause-back : goal.returns-clause-back
returns-clause-back c = rw (returns-clause-place c) (word_name-word_index c.args.self.now c.args.name c.requires)
