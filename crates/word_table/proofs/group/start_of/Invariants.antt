use Rattle.std.proofs.Common.{◌≡◌, take}
use Rattle.word_table.specs.Table.{groups, words_in}
use Rattle.word_table.proofs.group.start_of.Given as goal

abbrev pub invariant-loop-before : goal.invariant-loop-before
invariant-loop-before l = l.start ≡ words_in l.fn.geometry (take l.before-index groups)
