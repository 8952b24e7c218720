use Rattle.std.proofs.Common.{◌≡◌, ◌-◌, ◌^◌, min}
use Rattle.sound_state.specs.Sums.{sum_below}
use Rattle.block_cache.specs.Whole.{RestsAt}
use Rattle.worked_programs.specs.Reuse.{MakesRounds}
use Rattle.worked_programs.proofs.reuse.rounds.Given as goal

abbrev pub invariant-loop-word : goal.invariant-loop-word
invariant-loop-word l = record {
  rests : RestsAt l.heap l.cache;
  made : MakesRounds l.heap l.fn.cache l.word l.cache;
  sum : l.sum ≡ min (sum_below l.word (λ word. word)) (2 ^ 64 - 1);
}
