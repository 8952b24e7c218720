use Rattle.step_machine.specs.Firsts.{IsTable}
use Rattle.step_machine.specs.Openings.{first_words}
use Rattle.step_machine.proofs.first.first_table.Given as goal

abbrev pub invariant-loop-index : goal.invariant-loop-index
invariant-loop-index l = IsTable l.layout (first_words l.layout l.installed) l.index l.words.items
