-- Which steps are on a usable word.
use Rattle.std.specs.Prelude.{ℕ, ◌≡◌}
use Rattle.step_parts.specs.declared.large.point.LargePoint.TheVariants as large
use Rattle.errand_steps.specs.declared.point.Point.{Point}
use Rattle.errand_steps.specs.declared.point.Point.TheVariants.{Large}

-- who is at this point writes or reads the usable word i of the block at the place
abbrev pub AccessesWord : Point → ℕ → ℕ → Type 0
AccessesWord (Large (large.StoreWord p j value) o) place i = (p ≡ place) × (j ≡ i)
AccessesWord (Large (large.LoadWord p j) o) place i = (p ≡ place) × (j ≡ i)
AccessesWord p place i = ⊥
