use Rattle.std.proofs.Common.{◌≡◌, ◌<◌, drop}
use Rattle.word_table.specs.Table.{groups, words_in, name_in, word_name}
use Rattle.word_table.proofs.layout.Layout.name.Given as goal

abbrev pub invariant-loop-group : goal.invariant-loop-group
invariant-loop-group l = record {
  within : l.offset < words_in l.self (drop l.group-index groups);
  same : name_in l.self (drop l.group-index groups) l.offset ≡ word_name l.self l.index;
}
