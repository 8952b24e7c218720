use Rattle.std.proofs.Common.{ℕ, ◌≡◌, ◌<◌, None}
use Rattle.balloc_malloc.specs.Opened.{held_at}
use Rattle.balloc_malloc.proofs.opening.empty_all.Given as goal

abbrev pub invariant-loop-number : goal.invariant-loop-number
invariant-loop-number l = (number : ℕ) → number < l.number → held_at l.seats number ≡ None
