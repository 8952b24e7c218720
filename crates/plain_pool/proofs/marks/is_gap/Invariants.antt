use Rattle.std.proofs.Common.{ℕ, ◌<◌, ◌≤◌}
use Rattle.plain_pool.specs.Search.{IsMarked}
use Rattle.plain_pool.proofs.marks.is_gap.Given as goal

-- no number so far is marked
abbrev pub invariant-loop-k : goal.invariant-loop-k
invariant-loop-k l = (j : ℕ) → l.first ≤ j → j < l.k → ¬ IsMarked l.marks j
