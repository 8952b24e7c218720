-- The parts of a machine that has made no step.
use Rattle.std.specs.Prelude.{ℕ, ◌≡◌, ◌<◌, List, length, slice_index}
use Rattle.heap_geometry.specs.declared.geometry.Geometry.{Geometry}
use Rattle.word_table.specs.Table.{word_name}
use Rattle.word_table.specs.declared.name.WordName.{WordName}
use Rattle.errand_steps.specs.Errands.{ErrandFields, open_errand}
use Rattle.step_machine.specs.Cores.{errand_at}

-- the first words of the table, so many, each at its place
pub record IsTable (g : Geometry) (first : WordName → ℕ) (count : ℕ) (words : List ℕ) : Type 0 where
  pub all : length words ≡ count
  pub each : (index : ℕ) → index < count → slice_index words index ≡ first (word_name g index)

-- idle errands for the first callers, so many
pub record AreErrands (g : Geometry) (count : ℕ) (errands : List ErrandFields) : Type 0 where
  pub all : length errands ≡ count
  pub each : (caller : ℕ) → caller < count → errand_at errands caller ≡ open_errand caller g
