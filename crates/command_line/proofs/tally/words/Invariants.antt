use Rattle.std.proofs.Common.{◌≡◌, ◌≤◌, ◌*◌, ◌^◌, take}
use Rattle.std.specs.List.{sum_by}
use Rattle.command_line.specs.Tallies.{given_words}
use Rattle.command_line.proofs.tally.words.Given as goal

abbrev pub invariant-loop-outcome : goal.invariant-loop-outcome
invariant-loop-outcome l = record {
  value : l.words ≡ sum_by given_words (take l.outcome-index l.outcomes);
  few : l.words ≤ 2 ^ 32 * l.outcome-index;
}
