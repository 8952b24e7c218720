use Rattle.std.proofs.Common.{ℕ, ◌≡◌, ◌<◌, None}
use Rattle.balloc_c.specs.Opened.{held_at}
use Rattle.balloc_c.proofs.opening.are_empty.Given as goal

abbrev pub invariant-loop-pass : goal.invariant-loop-pass
invariant-loop-pass l = (number : ℕ) → number < l.pass-index → held_at l.passes number ≡ None
