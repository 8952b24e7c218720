use Rattle.std.proofs.Common.{ℕ, false, ◌≡◌, ◌<◌}
use Rattle.step_parts.specs.large.Units.{is_free}
use Rattle.step_parts.proofs.large.units.first_run.Given as goal

abbrev pub invariant-loop-first : goal.invariant-loop-first
invariant-loop-first l = (u : ℕ) → u < l.first → is_free l.bits u l.n ≡ false
