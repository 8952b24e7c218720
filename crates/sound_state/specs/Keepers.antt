-- Each descriptor stands in one place.
use Rattle.std.specs.Prelude.{ℕ, ◌≡◌, ◌<◌, ◌≤◌, ◌+◌, ◌==◌, ◌⊎◌, if◌then◌else◌, Option, Some, None, All, IsSome}
use Rattle.heap_geometry.specs.declared.geometry.Geometry.{Geometry}
use Rattle.heap_geometry.specs.declared.limits.TheConstants.{CLASSES}
use Rattle.packed_words.specs.declared.active.ActiveWord.{ActiveWord}
use Rattle.packed_words.specs.declared.active.ActiveWord.TheVariants.{Null, Held}
use Rattle.packed_words.specs.declared.anchor.AnchorState.{AnchorState as Phase}
use Rattle.packed_words.specs.declared.anchor.AnchorState.TheVariants as phase
use Rattle.packed_words.specs.Active.{active_of}
use Rattle.word_table.specs.declared.name.WordName.{WordName}
use Rattle.word_table.specs.declared.name.WordName.TheVariants as name
use Rattle.word_table.specs.Counts.{descriptor_count}
use Rattle.word_table.specs.Occurs.{occurs}
use Rattle.errand_steps.specs.Errands.{ErrandFields}
use Rattle.errand_steps.specs.Steps.{State}
use Rattle.errand_steps.specs.tables.Holding.{Status, reserving, waiting, partly_used, on_its_way}
use Rattle.sound_state.specs.Holdings.{holds_of}
use Rattle.sound_state.specs.Lists.{Lists}
use Rattle.sound_state.specs.Sums.{sum_below, words_sum, callers_sum}
use Rattle.sound_state.specs.Superblocks.{anchor_for, info_for, errand_keeps}

-- 1 where an active word or a slot holds d
abbrev pub active_keeps : ℕ → Option ActiveWord → ℕ
active_keeps d None = 0
active_keeps d (Some Null) = 0
active_keeps d (Some (Held e credits)) = if e == d then 1 else 0

abbrev pub word_keeps : ℕ → WordName → ℕ → ℕ
word_keeps d (name.Active heap class) word = active_keeps d (active_of word)
word_keeps d (name.Slot heap class) word = if word == d + 1 then 1 else 0
word_keeps d other word = 0

-- 1 where a superblock is FULL, and so stands in no word, list or errand
abbrev pub full_keeps : Phase → ℕ
full_keeps phase.Full = 1
full_keeps other = 0

-- how often a caller has d: retired, or kept in one of the four states
abbrev pub errand_has : ℕ → ErrandFields → ℕ
errand_has d e =
    occurs d e.retired + errand_keeps reserving d e + errand_keeps waiting d e + errand_keeps partly_used d e
    + errand_keeps on_its_way d e

-- how often d stands in the active words and the slots; in the classes' lists; among the available ones; with the callers, kept or retired
abbrev pub in_words : Geometry → State → ℕ → ℕ
in_words g s d = words_sum g (word_keeps d) s.word

abbrev pub in_lists : Lists → ℕ → ℕ
in_lists l d = sum_below CLASSES (λ class. occurs d (l.partials class))

abbrev pub in_available : Lists → ℕ → ℕ
in_available l d = occurs d l.available

abbrev pub with_callers : Geometry → State → ℕ → ℕ
with_callers g s d = callers_sum g (errand_has d) s.errand

-- 1 where the superblock of d is FULL, and so d stands nowhere
abbrev pub full_nowhere : State → ℕ → ℕ
full_nowhere s d = full_keeps (anchor_for s d).state

-- in how many places d stands, with 1 where its superblock is FULL
abbrev pub places_of : Geometry → State → Lists → ℕ → ℕ
places_of g s l d = in_words g s d + in_lists l d + in_available l d + with_callers g s d + full_nowhere s d

-- a superblock of the class that is partly used, or EMPTY
pub record IsPartlyUsed (s : State) (d c : ℕ) : Type 0 where
  pub class : (info_for s d).class ≡ c
  pub state : ((anchor_for s d).state ≡ phase.Partial × 1 ≤ (anchor_for s d).count) ⊎ ((anchor_for s d).state ≡ phase.Empty)

-- an active superblock of the class
pub record IsActive (s : State) (d c : ℕ) : Type 0 where
  pub class : (info_for s d).class ≡ c
  pub state : (anchor_for s d).state ≡ phase.Active

-- a descriptor without a superblock: its anchor says ACTIVE or EMPTY
abbrev pub IsWithout : State → ℕ → Type 0
IsWithout s d = ((anchor_for s d).state ≡ phase.Active) ⊎ ((anchor_for s d).state ≡ phase.Empty)

-- a descriptor that a caller keeps is in the state in which it is kept
abbrev pub IsKeptAs : State → Status → ℕ → ℕ → Type 0
IsKeptAs s reserving d class = IsActive s d class
IsKeptAs s waiting d class = IsActive s d class
IsKeptAs s partly_used d class = IsPartlyUsed s d class
IsKeptAs s on_its_way d class = IsWithout s d

-- each descriptor stands in one place, and is in the state that belongs to that place
pub record IsKept (g : Geometry) (s : State) (l : Lists) : Type 0 where
  pub once : (d : ℕ) → d < descriptor_count g → places_of g s l d ≡ 1
  pub active_words :
      (heap class : ℕ) → heap < g.heaps → class < CLASSES → IsSome (active_of (s.word (name.Active heap class)))
  pub slot_words :
      (heap class : ℕ) → heap < g.heaps → class < CLASSES → s.word (name.Slot heap class) ≤ descriptor_count g
  pub active :
      (heap class d credits : ℕ) → heap < g.heaps → class < CLASSES
      → active_of (s.word (name.Active heap class)) ≡ Some (Held d credits) → (d < descriptor_count g) × IsActive s d class
  pub slot :
      (heap class d : ℕ) → heap < g.heaps → class < CLASSES → s.word (name.Slot heap class) ≡ d + 1
      → (d < descriptor_count g) × IsPartlyUsed s d class
  pub full : (d : ℕ) → d < descriptor_count g → (anchor_for s d).state ≡ phase.Full → (anchor_for s d).count ≡ 0
  pub listed : (class : ℕ) → class < CLASSES → All (λ d. IsPartlyUsed s d class) (l.partials class)
  pub available : All (IsWithout s) l.available
  pub retired : (caller : ℕ) → caller < g.callers → All (IsWithout s) (s.errand caller).retired
  pub errand :
      (caller : ℕ) → caller < g.callers → All (λ k. IsKeptAs s k.status k.desc k.class) (holds_of (s.errand caller).point).kept
