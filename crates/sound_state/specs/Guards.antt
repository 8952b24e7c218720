-- Hazard words, and the descriptors that they keep from being reused.
use Rattle.std.specs.Prelude.{ℕ, ◌≡◌, ◌<◌, ◌≤◌, ◌+◌, Some, List, [], Contains, slice_index, length}
use Rattle.heap_geometry.specs.declared.geometry.Geometry.{Geometry}
use Rattle.word_table.specs.declared.name.WordName.TheVariants as name
use Rattle.errand_steps.specs.declared.point.Point.{Point}
use Rattle.errand_steps.specs.declared.point.Point.TheVariants as point
use Rattle.errand_steps.specs.Fits.{spare_of, pushed_by}
use Rattle.errand_steps.specs.Steps.{State}
use Rattle.errand_steps.specs.tables.Holding.{HazardState, clear, left, named, guarded, owned}
use Rattle.sound_state.specs.Holdings.{holds_of}
use Rattle.errand_steps.specs.tables.Descs.{passed_by_desc, held_by_desc}

-- the caller's hazard word is as its state at the caller's point asks
abbrev pub IsHazard : HazardState → ℕ → Type 0
IsHazard clear word = word ≡ 0
IsHazard left word = Unit {0}
IsHazard (named d) word = word ≡ d + 1
IsHazard (guarded d) word = word ≡ d + 1
IsHazard owned word = Unit {0}

-- a hazard word in this state guards: what it names was confirmed, or stored while its caller owned a block there, and isn't reused
abbrev pub IsGuard : HazardState → Type 0
IsGuard clear = ⊥
IsGuard left = ⊥
IsGuard (named d) = ⊥
IsGuard (guarded d) = Unit {0}
IsGuard owned = Unit {0}

-- the caller guards the descriptor
pub record Guards (s : State) (caller d : ℕ) : Type 0 where
  pub word : s.word (name.Hazard caller) ≡ d + 1
  pub guard : IsGuard (holds_of (s.errand caller).point).hazard

abbrev pub passed_by : Point → ℕ
passed_by (point.Desc p o) = passed_by_desc p
passed_by p = 0

abbrev pub held_by : Point → List ℕ
held_by (point.Desc p o) = held_by_desc p
held_by p = []

-- the hazard words are as the points ask; nobody guards what is pushed; who guards one that a scan retires was seen where the scan has passed, and the words that it has not read are noted as 0; during a scan and the push after it the list is full
pub record IsGuarded (g : Geometry) (s : State) : Type 0 where
  pub words : (caller : ℕ) → caller < g.callers → IsHazard (holds_of (s.errand caller).point).hazard (s.word (name.Hazard caller))
  pub pushed :
      (caller other d : ℕ) → caller < g.callers → other < g.callers → Guards s caller d
      → pushed_by (s.errand other).point ≡ Some d → ⊥
  pub passed :
      (caller other d : ℕ) → caller < g.callers → other < g.callers → Guards s caller d → Contains (s.errand other).retired d
      → caller < passed_by (s.errand other).point → slice_index (held_by (s.errand other).point) caller ≡ d + 1
  pub unread :
      (caller i : ℕ) → caller < g.callers → passed_by (s.errand caller).point ≤ i → i < length (held_by (s.errand caller).point)
      → slice_index (held_by (s.errand caller).point) i ≡ 0
  pub full :
      (caller : ℕ) → caller < g.callers → spare_of (s.errand caller).point ≡ 1 → length (s.errand caller).retired ≡ g.callers + 1
