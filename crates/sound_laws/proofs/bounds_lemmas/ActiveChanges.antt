-- Which steps change an active word, and what a caller's point says of its installs.
use Rattle.std.proofs.Common.{ℕ, true, false, ◌≡◌, ◌≢◌, ◌≤◌, arith, ◌⊎◌, ◌&&◌, IsTrue}
use Rattle.sound_state.proofs.Common.{Null, Held, active_word, WordName, Found, name_of, after_action, BlockPoint, Point, plan_point_of, turn_stage_of, is_unneeded, one_if}
use Rattle.sound_state.proofs.Common.{Cas, found_by, plan_block_of, counts_won, is_seeking}
use Rattle.word_table.specs.declared.name.WordName.TheVariants as name
use Rattle.step_parts.specs.superblock.Points.{credit_taken}
use Rattle.errand_steps.specs.declared.point.Point.TheVariants as point
use Rattle.sound_laws.specs.bounds.Installs.{IsActiveName}
use Rattle.sound_laws.specs.bounds.Wins.{offers, is_between}
use Rattle.errand_steps.specs.tables.Blocks.{is_offer}
use Rattle.sound_laws.proofs.bounds_lemmas.WinDefs.{found_in}

-- a held active word isn't null
held-not-null : (d credits : ℕ) → active_word (Held d credits) ≢ active_word Null
unfolding active_word
held-not-null d credits is = absurd (omega (arith, is))

-- an active word that isn't null after a step wasn't null before it, or the step is an offer that was won
abbrev pub ChangesActive : Point → ℕ → Type 0
ChangesActive p v =
    IsActiveName (name_of (plan_point_of p)) → after_action (plan_point_of p) v ≢ active_word Null
    → (v ≢ active_word Null) ⊎ (IsTrue (offers p) × (counts_won (plan_point_of p) (found_in p v) ≡ true))

-- an exchange of null for something else found the word not null, or is won
install-changes :
    (v new : ℕ) (n : WordName) → new ≢ active_word Null
    → (v ≢ active_word Null) ⊎ (IsTrue true × (counts_won (Cas n (active_word Null) new) (found_by (Cas n (active_word Null) new) v) ≡ true))
install-changes v new n held = grind (arith, held)

-- a take of a credit after which the active word isn't null found it not null
take-changes :
    (v d credits : ℕ) → after_action (Cas (name.Active 0 0) (active_word (Held d credits)) (credit_taken d credits)) v ≢ active_word Null
    → v ≢ active_word Null
take-changes v d credits some = grind (arith, some, held-not-null)

-- a step in a superblock that doesn't leave its active word null found it held, or is an offer that was won
block-changes :
    (p : BlockPoint) (v : ℕ) → IsActiveName (name_of (plan_block_of p)) → after_action (plan_block_of p) v ≢ active_word Null
    → (v ≢ active_word Null) ⊎ (IsTrue (is_offer p) × (counts_won (plan_block_of p) (found_by (plan_block_of p) v) ≡ true))
block-changes p v is some = grind (arith, is, some, install-changes, take-changes, held-not-null)

-- a step at each point that doesn't leave its active word null found it held, or is an offer that was won
pub active-change : (p : Point) (v : ℕ) → ChangesActive p v
unfolding plan_point_of
active-change (point.Block p o) v is some = block-changes p v is some
active-change p v is some = absurd (grind (arith, is))

-- what counts as won of an offer was won
pub install-won : (p : Point) (x : Found) → one_if (offers p && counts_won (plan_point_of p) x) ≤ one_if (offers p && x.won)
unfolding plan_point_of
install-won p x = grind (arith)

-- a caller that discards a superblock seeks one, and a caller that seeks one isn't between turns
pub discards-seeks : (p : Point) → IsTrue (is_unneeded (turn_stage_of p)) → IsTrue (is_seeking (turn_stage_of p))
discards-seeks p is = grind (arith)

pub seeks-inside : (p : Point) → IsTrue (is_seeking (turn_stage_of p)) → is_between p ≡ false
seeks-inside p is = grind (arith)
