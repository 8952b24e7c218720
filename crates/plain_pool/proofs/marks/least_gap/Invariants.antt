use Rattle.std.proofs.Common.{ℕ, ◌<◌}
use Rattle.plain_pool.specs.Search.{IsGap}
use Rattle.plain_pool.proofs.marks.least_gap.Given as goal

-- no gap begins so far
abbrev pub invariant-loop-first : goal.invariant-loop-first
invariant-loop-first l = (j : ℕ) → j < l.first → ¬ IsGap l.marks l.count j
