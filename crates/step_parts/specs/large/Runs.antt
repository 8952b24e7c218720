-- Runs of units, and allocations of one.
use Rattle.std.specs.Prelude.{ℕ, ◌+◌, ◌≤◌}
use Rattle.heap_geometry.specs.declared.geometry.Geometry.{Geometry}
use Rattle.heap_geometry.specs.declared.limits.TheConstants.{MAX_UNITS}
use Rattle.heap_geometry.specs.Geometry.{IsChecked, IsWithin}

-- the numbers of a heap, and how many units are wanted
pub record WantFields : Type 0 where
  pub geometry : Geometry
  pub units : ℕ

-- a want exists: its heap's numbers are in range, and it wants units, at most those of the largest heap
pub record IsWant (w : WantFields) : Type 0 where
  pub geometry : IsChecked w.geometry
  pub units : IsWithin 1 MAX_UNITS w.units

-- the first unit of a run, and how many units it has
pub record RunFields : Type 0 where
  pub first : ℕ
  pub units : ℕ

-- the run has units, and ends within the largest heap
pub record IsRun (r : RunFields) : Type 0 where
  pub some : 1 ≤ r.units
  pub within : r.first + r.units ≤ MAX_UNITS
