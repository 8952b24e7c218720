use Rattle.std.proofs.Common.{ℕ, ◌≡◌, ◌<◌, None}
use Rattle.balloc_malloc.specs.Opened.{held_at}
use Rattle.balloc_malloc.proofs.opening.are_empty.Given as goal

abbrev pub invariant-loop-seat : goal.invariant-loop-seat
invariant-loop-seat l = (number : ℕ) → number < l.seat-index → held_at l.seats number ≡ None
