-- What a step does to the tag of a superblock.
use Rattle.std.proofs.Common.{ℕ, ◌≡◌, ◌≢◌, ◌<◌, ◌+◌, arith, sym, inl, inr}
use Rattle.sound_state.proofs.Common.{Geometry, cases_name, State, Step, name_at, IsSoundWithoutCounts, anchor_for, IsBound}
use Rattle.word_table.specs.declared.name.WordName.TheVariants as name
use Rattle.sound_state.specs.Tags.{pops_from}
use Rattle.sound_state.proofs.shared.BoundLemmas.{bound-with}
use Rattle.sound_state.proofs.shared.PointLemmas.{fits-now}
use Rattle.sound_state.proofs.shared.TagLemmas.{anchor-tags-below}
use Rattle.sound_state.proofs.shared.UnplacedLemmas.{way-unplaced}
use Rattle.sound_state.proofs.tags.TagPoints.{tag-point, pops-point}

-- a step at another word than the anchor leaves the tag of a superblock, and pops nothing of it
elsewhere-tag :
    (s : State) (caller : ℕ) (s' : State) (d : ℕ) → Step s caller s' → name.Anchor d ≢ name_at s caller
    → (anchor_for s' d).tag ≡ (anchor_for s d).tag + pops_from s caller d
elsewhere-tag s caller s' d step differ = grind (arith, step, differ, pops-point)

-- a step at the anchor of a bound superblock raises its tag where it pops a block of it, and leaves it else
here-tag :
    (g : Geometry) (s : State) (caller : ℕ) (s' : State) (d : ℕ) → IsSoundWithoutCounts g s → caller < g.callers → Step s caller s' → IsBound g s d
    → name_at s caller ≡ name.Anchor d → (anchor_for s' d).tag ≡ (anchor_for s d).tag + pops_from s caller d
here-tag g s caller s' d sound has step bound is = grind (arith, sound, has, step, bound, is, tag-point, fits-now, anchor-tags-below, way-unplaced, bound-with)

-- any step raises the tag of a bound superblock where it pops a block of it, and leaves it else
pub tag-stepped :
    (g : Geometry) (s : State) (caller : ℕ) (s' : State) (d : ℕ) → IsSoundWithoutCounts g s → caller < g.callers → Step s caller s' → IsBound g s d
    → (anchor_for s' d).tag ≡ (anchor_for s d).tag + pops_from s caller d
tag-stepped g s caller s' d sound has step bound =
    elim (cases_name (name.Anchor d) (name_at s caller)) [
      | inl is ↦ here-tag g s caller s' d sound has step bound (sym is)
      | inr differ ↦ elsewhere-tag s caller s' d step differ
    ]
