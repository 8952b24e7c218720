-- What the step tells that counts a pass.
use Rattle.std.specs.Prelude.{ℕ, suc, ◌≡◌, ◌<◌, ◌⊎◌, Option, Some, None, List, [], ◌∷◌, length, map, slice_index}
use mathlib.Core.Option.{some}
use lib.ListN.{get_elem?}
use Rattle.std.specs.Arc.{arc_value}
use Rattle.heap_geometry.specs.declared.limits.TheConstants.{MAX_CALLERS}
use Rattle.live_heap.specs.Heaps.{HeapFields}
use Rattle.live_heap.specs.declared.pass.Pass.{Pass}
use Rattle.shared_heap.specs.declared.places.Given.{Given}
use Rattle.shared_heap.specs.declared.places.Stand.TheVariants as stand
use Rattle.shared_heap.specs.Places.{Holder, IsGiven, PlaceState, PlacesHold, count_of, home_at}

-- the places as they were when the last pass was to be counted: the rule of the places holds, and this pass was given back by the seat with this number
pub record StoodWith (h : HeapFields) (own : Given) (s : PlaceState) : Type 0 where
  pub holds : PlacesHold h s
  pub id : ℕ
  pub laid : get_elem? s.views id ≡ some (h, stand.Laid own)
  pub all : length s.homes ≡ MAX_CALLERS
  pub last : suc (count_of s) ≡ h.layout.callers

-- these lay in the first places, one in each, in their order
abbrev pub LieIn : HeapFields → PlaceState → List Given → Type 0
LieIn h s givens =
    (place : ℕ) (g : Given) → get_elem? givens place ≡ some g
    → (slice_index s.words place ≡ 2) × (home_at s place ≡ some (Some g)) × IsGiven h place g

-- the pass of each caller lay in its place, this one among them, as it was given back
pub record AllLay (h : HeapFields) (own : Given) (givens : List Given) : Type 0 where
  pub state : PlaceState
  pub stood : StoodWith h own state
  pub lie : LieIn h state givens
  pub many : length givens ≡ h.layout.callers
  pub has_own : get_elem? givens own.pass.errand.caller ≡ some own

-- the passes among what lay in places
abbrev pub passes_of : List Given → List Pass
passes_of = map (λ g. g.pass)

-- the pass of what lay in a place, where something did
abbrev pub pass_in : Option Given → List Pass
pass_in None = []
pass_in (Some g) = g.pass ∷ []

-- each has a share in this heap
abbrev pub AreShares : HeapFields → List Given → Type 0
AreShares h givens = (place : ℕ) (g : Given) → get_elem? givens place ≡ some g → arc_value g.share ≡ h

-- these places from one on, each with what lay there
abbrev pub slots_from : ℕ → List Given → List (ℕ × Option Given)
slots_from place [] = []
slots_from place (g ∷ givens) = (place, Some g) ∷ slots_from (suc place) givens

-- others were to be counted yet, and nothing was taken; or that was the last one, and all of them were taken out of their places
abbrev pub TakesOver : HeapFields → Given → ℕ → List (ℕ × Option Given) → Type 0
TakesOver h own number taken =
    ((suc number < h.layout.callers) × (taken ≡ []))
    ⊎ ((suc number ≡ h.layout.callers) × (givens : List Given) × (taken ≡ slots_from 0 givens) × AllLay h own givens)

-- a pass that was laid is counted: its number is how many were counted before
abbrev pub HasCounted : Holder → ℕ → Holder → Type 0
HasCounted ((h, stand.Laid own), []) found after = (after.0 ≡ (h, stand.Counted own found)) × TakesOver h own found after.1
HasCounted before found after = Unit {0}
