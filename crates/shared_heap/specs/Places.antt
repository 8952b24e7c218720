-- What lies in the places for the passes that are given back.
use Rattle.std.specs.Prelude.{ℕ, suc, ◌≡◌, ◌<◌, ◌≤◌, Option, Some, None, List, [], ◌∷◌, length, slice_index, slice_index_or}
use mathlib.Core.Option.{Option as Maybe, some, none}
use lib.ListN.{get_elem?}
use Rattle.std.specs.Arc.{arc_value}
use Rattle.atomic_table.specs.Table.{Me, State}
use Rattle.errand_steps.specs.Begins.{IsIdle}
use Rattle.heap_geometry.specs.declared.limits.TheConstants.{MAX_CALLERS}
use Rattle.live_heap.specs.Heaps.{HeapFields}
use Rattle.live_heap.specs.Passes.{IsOf}
use Rattle.shared_heap.specs.declared.places.Given.{Given}
use Rattle.shared_heap.specs.declared.places.Stand.{Stand}
use Rattle.shared_heap.specs.declared.places.Stand.TheVariants as stand

-- the heap whose places these are, and what a seat of them is for
abbrev pub View : Type 0
View = HeapFields × Stand

-- the places, their words, and the view of each seat
abbrev pub PlaceState : Type 0
PlaceState = State (Option Given) View

-- a seat of the places: its view, and what it has taken out of them
abbrev pub Holder : Type 0
Holder = Me (Option Given) View

-- what lies in a place: a pass or none; or nothing, where a seat has taken the place
abbrev pub home_at : PlaceState → ℕ → Maybe (Option Given)
home_at s place = slice_index_or s.homes place none

-- how many passes were counted
abbrev pub count_of : PlaceState → ℕ
count_of s = slice_index s.words MAX_CALLERS

-- the seat is about this place
abbrev pub IsAbout : Stand → ℕ → Type 0
IsAbout (stand.Deals next) place = next ≤ place
IsAbout (stand.Waits caller) place = place ≡ caller
IsAbout (stand.Takes caller) place = place ≡ caller
IsAbout (stand.Laid g) place = place ≡ g.pass.errand.caller
IsAbout (stand.Counted g n) place = place ≡ g.pass.errand.caller

-- the seat has counted the pass of this place, as the one with this number
abbrev pub IsNumber : Stand → ℕ → ℕ → Type 0
IsNumber (stand.Counted g n) number place = (number ≡ n) × (place ≡ g.pass.errand.caller)
IsNumber v number place = ⊥

-- a pass of the heap, in no call, lies in the place of its caller, with a share in that heap
abbrev pub IsGiven : HeapFields → ℕ → Given → Type 0
IsGiven h place g = IsOf h g.pass × IsIdle g.pass.errand × (g.pass.errand.caller ≡ place) × (arc_value g.share ≡ h)

-- what is so of the place's word and of what lies there, by a seat that is about it: no pass lies there yet; or it is taken; or the pass that the seat has laid lies there
abbrev pub Knows : HeapFields → Stand → ℕ → ℕ → Maybe (Option Given) → Type 0
Knows h (stand.Deals next) place word home = (word ≡ 0) × (home ≡ some None)
Knows h (stand.Waits caller) place word home = (word ≡ 0) × (home ≡ some None)
Knows h (stand.Takes caller) place word home = word ≡ 1
Knows h (stand.Laid g) place word home = (word ≡ 2) × (home ≡ some (Some g)) × IsGiven h place g
Knows h (stand.Counted g n) place word home = (word ≡ 2) × (home ≡ some (Some g)) × IsGiven h place g

-- the callers whose passes were counted, in their order: as many as the count says, and each stands where its seat has its number
pub record InOrder (h : HeapFields) (s : PlaceState) : Type 0 where
  pub order : List ℕ
  pub count : count_of s ≡ length order
  pub counted : (number place : ℕ) → get_elem? order number ≡ some place
      → (place < h.layout.callers) × (id : ℕ) × (v : View) × (get_elem? s.views id ≡ some v) × IsNumber v.1 number place
  pub numbered : (id number place : ℕ) (v : View) → get_elem? s.views id ≡ some v → IsNumber v.1 number place → get_elem? order number ≡ some place

-- each place has a word and at most one seat that is about it; passes are counted in an order; and until all of the heap's are counted each seat knows what lies in its place, and where the word is 2 a pass lies that was given back
pub record PlacesHold (h : HeapFields) (s : PlaceState) : Type 0 where
  pub words : MAX_CALLERS < length s.words
  pub homes : length s.homes ≤ MAX_CALLERS
  pub in_order : InOrder h s
  pub each :
      count_of s < h.layout.callers
      → (id : ℕ) (v : View) (place : ℕ) → get_elem? s.views id ≡ some v → IsAbout v.1 place → place < length s.homes
      → Knows h v.1 place (slice_index s.words place) (home_at s place)
  pub alone :
      (id other : ℕ) (v w : View) (place : ℕ) → get_elem? s.views id ≡ some v → get_elem? s.views other ≡ some w
      → IsAbout v.1 place → IsAbout w.1 place → id ≡ other
  pub filled :
      count_of s < h.layout.callers
      → (place : ℕ) → place < length s.homes → slice_index s.words place ≡ 2
      → (g : Given) × (home_at s place ≡ some (Some g)) × IsGiven h place g

-- a seat that hands out places goes on behind the next one, and another seat is about that
abbrev pub rest_of : View → View
rest_of (h, stand.Deals next) = (h, stand.Deals (suc next))
rest_of v = v

abbrev pub next_of : View → View
next_of (h, stand.Deals next) = (h, stand.Waits next)
next_of v = v

-- a seat has taken a place, in which nothing lay
abbrev pub HasTaken : ℕ → Holder → Holder → Type 0
HasTaken place before after = after ≡ ((before.0.0, stand.Takes place), (place, None) ∷ before.1)

-- a seat that held a place with a pass, and no other, has laid the pass there
abbrev pub HasLaid : ℕ → Holder → Holder → Type 0
HasLaid place before after = (g : Given) → before.1 ≡ (place, Some g) ∷ [] → after ≡ ((before.0.0, stand.Laid g), [])
