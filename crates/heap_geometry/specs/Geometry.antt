-- The ranges of a heap's numbers.
use Rattle.std.specs.Prelude.{ℕ, ◌≤◌}
use Rattle.heap_geometry.specs.declared.geometry.Geometry.{Geometry}
use Rattle.heap_geometry.specs.declared.limits.TheConstants.{MAX_FRAMES, MAX_HEAPS, MAX_UNITS, MAX_CALLERS, MAX_TURNS}

-- a number lies between two others, or is one of them
abbrev pub IsWithin : ℕ → ℕ → ℕ → Type 0
IsWithin low high n = (low ≤ n) × (n ≤ high)

-- each number of a geometry is in its range
pub record IsChecked (g : Geometry) : Type 0 where
  pub frames : IsWithin 1 MAX_FRAMES g.frames
  pub heaps : IsWithin 1 MAX_HEAPS g.heaps
  pub units : IsWithin 0 MAX_UNITS g.units
  pub callers : IsWithin 1 MAX_CALLERS g.callers
  pub turn_limit : IsWithin 1 MAX_TURNS g.turn_limit
