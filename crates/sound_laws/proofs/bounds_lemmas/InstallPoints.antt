-- What a point says of the superblock that its caller seeks.
use Rattle.std.proofs.Common.{ℕ, true, false, cond, Option, Some, None, ◌≡◌, ◌≢◌, [], refl, arith, sym, ◌⊎◌, ◌&&◌, ◌==◌, not, All, IsTrue, true≢false, eq-eqb, eqb-true}
use Rattle.std.proofs.lemmas.List.Elements.{All-head}
use Rattle.sound_state.proofs.Common.{Null, active_word, Found, name_of, BlockPoint, Continuation, Point, plan_point_of, turn_stage_of, is_unneeded, one_if, is_seeking}
use Rattle.step_parts.specs.declared.superblock.point.BlockPoint.TheVariants as block
use Rattle.errand_steps.specs.declared.point.Point.TheVariants as point
use Rattle.errand_steps.specs.tables.Expected.{Expected}
use Rattle.sound_laws.specs.bounds.Expectations.{expects_of}
use Rattle.sound_laws.specs.bounds.Installs.{IsActiveName}
use Rattle.sound_laws.specs.bounds.Wins.{found_none_by}
use Rattle.sound_laws.proofs.bounds_lemmas.WinDefs.{looks_active, offers_new, found_in}

-- a point from which a caller expects nothing, and neither offers nor discards a superblock, as one at the load of an active word
pub record LooksOnly (p : Point) : Type 0 where
  pub expects : expects_of p ≡ []
  pub offer : offers_new p ≡ false
  pub discards : one_if (is_unneeded (turn_stage_of p)) ≡ 0

pub looks-only : (p : Point) → IsTrue (looks_active p) → LooksOnly p
unfolding expects_of
looks-only p looks = grind (arith, looks)

-- what a caller notes that finds no superblock active: so many wins; and one that still seeks one: what it had noted
pub found_none-looks :
    (p : Point) (x : Found) (wins : ℕ) (old : Option ℕ) → IsTrue (looks_active p) → x.value ≡ active_word Null
    → found_none_by p x wins old ≡ Some wins
found_none-looks p x wins old looks null = grind (arith, looks, null, eq-eqb)

pub found_none-seeks : (p : Point) (x : Found) (wins : ℕ) (old : Option ℕ) → IsTrue (is_seeking (turn_stage_of p)) → found_none_by p x wins old ≡ old
found_none-seeks p x wins old seeks = grind (arith, seeks)

-- a note made by a load of an active word: it found none active, when there were so many wins
found_none-load : (v wins n : ℕ) → cond (v == active_word Null) (Some wins) None ≡ Some n → (n ≡ wins) × (v ≡ active_word Null)
found_none-load v wins n is = grind (arith, is, eqb-true)

-- a note of having found none active is the one before the step, or made by its load of an active word
pub found_none-from :
    (p : Point) (x : Found) (wins : ℕ) (old : Option ℕ) (n : ℕ) → found_none_by p x wins old ≡ Some n
    → (old ≡ Some n) ⊎ (IsTrue (looks_active p) × (n ≡ wins) × (x.value ≡ active_word Null))
found_none-from p x wins old n is = grind (arith, is, found_none-load)

-- a point whose offer of a new superblock was in vain: it expected its active word to be null, and that isn't
pub record LosesNew (p : Point) (v : ℕ) (P : Expected → Type 0) : Type 0 where
  pub active : IsActiveName (name_of (plan_point_of p))
  pub some : v ≢ active_word Null
  pub discards : one_if (is_unneeded (turn_stage_of p)) ≡ 0
  pub expected : P (record { word = name_of (plan_point_of p); value = active_word Null })

-- an offer that was lost found the active word not null
not-null : (v : ℕ) → not (v == active_word Null) ≡ true → v ≢ active_word Null
not-null v lost is = absurd (grind (arith, lost, is))

loses-block :
    (p : BlockPoint) (o : Continuation) (v : ℕ) (P : Expected → Type 0)
    → IsTrue (offers_new (point.Block p o) && not (found_in (point.Block p o) v).won)
    → All P (expects_of (point.Block p o)) → LosesNew (point.Block p o) v P
unfolding expects_of plan_point_of
loses-block (block.InstallSuperblock at) o v P lost all = record {
  active = tt;
  some = not-null v lost;
  discards = refl;
  expected = All-head P _ [] all;
}
loses-block p o v P lost all = absurd (true≢false (sym lost))

pub loses-new : (p : Point) (v : ℕ) (P : Expected → Type 0) → IsTrue (offers_new p && not (found_in p v).won) → All P (expects_of p) → LosesNew p v P
loses-new (point.Block p o) v P lost all = loses-block p o v P lost all
loses-new p v P lost all = absurd (true≢false (sym lost))
