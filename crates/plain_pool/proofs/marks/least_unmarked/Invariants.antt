use Rattle.std.proofs.Common.{ℕ, ◌<◌}
use Rattle.plain_pool.specs.Search.{IsMarked}
use Rattle.plain_pool.proofs.marks.least_unmarked.Given as goal

-- every number so far is marked
abbrev pub invariant-loop-k : goal.invariant-loop-k
invariant-loop-k l = (j : ℕ) → j < l.k → IsMarked l.marks j
