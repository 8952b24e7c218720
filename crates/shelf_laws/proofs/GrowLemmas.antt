-- How what is handed over grows with a history: one parcel for each event that is chosen.
use Rattle.std.proofs.Common.{ℕ, Bool, true, false, cond, ◌≡◌, ◌≢◌, ◌+◌, List, [], ◌∷◌, ◌++◌, length, refl, sym, ◌∙◌, ap, inl, inr, append-nil, arith}
use Rattle.std.specs.Prelude.{if◌then◌else◌, count_by}
use Rattle.std.proofs.lemmas.Bool.{cases_Bool}
use Rattle.std.proofs.lemmas.List.{length-append}
use Rattle.std.proofs.lemmas.List.Sums.{sum_by-cons, sum_by_push}
use Rattle.heap_geometry.specs.declared.geometry.Geometry.{Geometry}
use Rattle.pool_model.specs.declared.event.Event.{Event}
use Rattle.pool_model.specs.declared.event.Event.TheVariants.{Alloc, Looked, Refuse, Free, Write, Put, Take, TakeNone}
use Rattle.pool_model.specs.Legal.{IsAllowed, IsEmptyShelf, IsLegalEventWithoutCounts, IsLegalWithoutCounts}
use Rattle.pool_model.specs.Parcels.{Parcel, handed, lying_on, parcel_of, parcels, parcels_from, parcels_in, puts_on, takes_off}
use Rattle.pool_model.specs.Pool.{Pool, pool_after, pool_of}
use Rattle.pool_model.proofs.HistoryLemmas.{kept}
use Rattle.pool_model.proofs.ParcelLemmas.{from-append, in-order, lying-none, push-add, push-skip}
use Rattle.pool_model.proofs.PoolLemmas.{each-every}
use Rattle.pool_model.proofs.WellFormedLemmas.{sound-differ, sound-of}
use Rattle.pool_model.specs.declared.owner.Owner.TheVariants.{Shelf}

-- the number of chosen events of a list with one event more
pub count-push :
    (chosen : Event → Bool) (events : List Event) (event : Event)
    → count_by chosen (events ++ event ∷ []) ≡ count_by chosen events + cond (chosen event) 1 0
count-push chosen events event = sum_by_push (λ (e : Event). cond (chosen e) 1 0) events event

pub count-cons :
    (chosen : Event → Bool) (event : Event) (events : List Event)
    → count_by chosen (event ∷ events) ≡ cond (chosen event) 1 0 + count_by chosen events
count-cons chosen event events = sum_by-cons (λ (e : Event). cond (chosen e) 1 0) event events

pub count-more :
    (chosen : Event → Bool) (events : List Event) (event : Event) → chosen event ≡ true
    → count_by chosen (events ++ event ∷ []) ≡ count_by chosen events + 1
count-more chosen events event on =
    count-push chosen events event ∙ ap (λ (b : Bool). count_by chosen events + cond b 1 0) on

pub count-same :
    (chosen : Event → Bool) (events : List Event) (event : Event) → chosen event ≡ false
    → count_by chosen (events ++ event ∷ []) ≡ count_by chosen events
count-same chosen events event off =
    let last : count_by chosen (events ++ event ∷ []) ≡ count_by chosen events + 0 =
    count-push chosen events event ∙ ap (λ (b : Bool). count_by chosen events + cond b 1 0) off in
    omega (arith, last)

-- a list of which no event is chosen has none as its first, and none in its rest
pub count-none-first :
    (chosen : Event → Bool) (event : Event) (events : List Event) → count_by chosen (event ∷ events) ≡ 0
    → (chosen event ≡ false) × (count_by chosen events ≡ 0)
count-none-first chosen event events none =
    let whole = sym (count-cons chosen event events) ∙ none in
    elim (cases_Bool (chosen event)) [
      | inl on ↦
          let one : 1 + count_by chosen events ≡ 0 = ap (λ (b : Bool). cond b 1 0 + count_by chosen events) (sym on) ∙ whole in
          absurd (omega (arith, one))
      | inr off ↦
          let zero_more : 0 + count_by chosen events ≡ 0 = ap (λ (b : Bool). cond b 1 0 + count_by chosen events) (sym off) ∙ whole in
          (off, omega (arith, zero_more))
    ]

-- a list of which no event is chosen hands nothing over
pub from-none :
    (chosen : Event → Bool) (pool : Pool) (events : List Event) → count_by chosen events ≡ 0 → parcels_from chosen pool events ≡ []
from-none chosen pool [] none = refl
from-none chosen pool (event ∷ events) none =
    let parts = count-none-first chosen event events none in
    ap (λ (b : Bool). (if b then handed pool event else []) ++ parcels_from chosen (pool_after pool event) events) parts.0
    ∙ from-none chosen (pool_after pool event) events parts.1

pub parcels-none :
    (chosen : Event → Bool) (history more : List Event) → count_by chosen more ≡ 0 → parcels chosen (history ++ more) ≡ parcels chosen history
parcels-none chosen history more none =
    from-append chosen [] history more
    ∙ ap (λ (l : List Parcel). parcels chosen history ++ l) (from-none chosen (pool_of history) more none)
    ∙ append-nil (parcels chosen history)

-- the event is a put or a take
abbrev pub IsHandOver : Event → Type 0
IsHandOver (Put caller place shelf) = Unit {0}
IsHandOver (Take caller shelf place) = Unit {0}
IsHandOver event = ⊥

-- a legal put, or take, hands over one parcel
pub handed-one :
    (g : Geometry) (before : List Event) (event : Event) → IsAllowed g before event → IsHandOver event
    → (parcel : Parcel) × (handed (pool_of before) event ≡ parcel ∷ [])
handed-one g before (Alloc caller need place) allowed is = absurd is
handed-one g before (Looked caller class) allowed is = absurd is
handed-one g before (Refuse caller need) allowed is = absurd is
handed-one g before (Free caller place) allowed is = absurd is
handed-one g before (Write caller place i v) allowed is = absurd is
handed-one g before (Put caller place shelf) allowed is = (parcel_of allowed.0.0, ap parcels_in allowed.0.1)
handed-one g before (Take caller shelf place) allowed is = (parcel_of allowed.0.0, ap parcels_in allowed.0.1)
handed-one g before (TakeNone caller shelf) allowed is = absurd is

-- an event that is chosen hands over the block that it names
pub parcels-add :
    (chosen : Event → Bool) (history : List Event) (event : Event) (parcel : Parcel) → chosen event ≡ true
    → handed (pool_of history) event ≡ parcel ∷ [] → parcels chosen (history ++ event ∷ []) ≡ parcels chosen history ++ parcel ∷ []
parcels-add chosen history event parcel on is =
    push-add chosen history event on ∙ ap (λ (l : List Parcel). parcels chosen history ++ l) is

pub parcels-length :
    (g : Geometry) (chosen : Event → Bool) (history : List Event) → ((event : Event) → chosen event ≡ true → IsHandOver event)
    → IsLegalWithoutCounts g history → length (parcels chosen history) ≡ count_by chosen history
parcels-length g chosen history hands legal =
    kept (IsLegalEventWithoutCounts g) (λ h. length (parcels chosen h) ≡ count_by chosen h) history
    (λ before event ok same.
    elim (cases_Bool (chosen event)) [
      | inl on ↦
          let one = handed-one g before event ok.1 (hands event on) in
          let added = parcels-add chosen before event one.0 on one.1 in
          let long : length (parcels chosen (before ++ event ∷ [])) ≡ length (parcels chosen before) + 1 =
          ap (λ (l : List Parcel). length l) added ∙ length-append (parcels chosen before) (one.0 ∷ []) in
          let counted = count-more chosen before event on in
          omega (arith, long, counted, same)
      | inr off ↦
          ap (λ (l : List Parcel). length l) (push-skip chosen before event off) ∙ same ∙ sym (count-same chosen before event off)
    ]) legal refl

-- all that was put on a shelf on which no block lies was taken off it
pub puts-taken :
    (g : Geometry) (history : List Event) (shelf : ℕ) → IsLegalWithoutCounts g history → IsEmptyShelf (pool_of history) shelf
    → puts_on shelf history ≡ takes_off shelf history
puts-taken g history shelf legal empty =
    let nothing : lying_on shelf (pool_of history) ≡ [] =
    lying-none shelf (pool_of history)
    (each-every (λ block. block.owner ≢ Shelf shelf) (pool_of history) (sound-differ g (pool_of history) (sound-of g history legal)) empty) in
    in-order g history shelf legal ∙ ap (λ (l : List Parcel). takes_off shelf history ++ l) nothing ∙ append-nil (takes_off shelf history)
