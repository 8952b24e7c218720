-- The free units.
use Rattle.std.proofs.Common.{ℕ, ◌≡◌, ◌<◌, arith, inl, inr}
use Rattle.std.specs.Prelude.{◌↔◌}
use Rattle.std.specs.Int.{bit_at}
use Rattle.std.proofs.lemmas.Bool.{cases_eq}
use Rattle.heap_geometry.specs.declared.geometry.Geometry.{Geometry}
use Rattle.word_table.specs.declared.name.WordName.TheVariants as name
use Rattle.errand_steps.specs.Steps.{State}
use Rattle.sound_state.specs.Lists.{Lists}
use Rattle.sound_state.specs.Ties.{IsCovered}
use Rattle.heap_census.proofs.IdleLemmas.{Rests}

-- the bit of a unit is 0 exactly where the unit isn't covered
pub clear-uncovered :
    (g : Geometry) (s : State) (l : Lists) (unit : ℕ) → Rests g s l → unit < g.units
    → (bit_at (s.word name.Units) unit ≡ 0) ↔ (¬ IsCovered g s unit)
clear-uncovered g s l unit rests has =
    let taken = rests.parts.tied.units unit has in (
      λ clear covered. let one = taken.1 covered in omega (arith, clear, one),
      λ free. elim (cases_eq (bit_at (s.word name.Units) unit) 0) [
        | inl clear ↦ clear
        | inr set ↦ absurd (free (taken.0 (omega (arith, set))))
      ],
    )
