-- What the callers of a pipeline know, together, of the history of the closed heap.
use Rattle.std.proofs.Common.{ℕ, eqb, cond, ◌≡◌, ◌≢◌, ◌<◌, ◌≤◌, ◌+◌, ◌*◌, ◌++◌, ◌⊎◌, false, List, [], ◌∷◌, Some, None, length, refl, sym, ap, ◌∙◌, subst, inl, inr, arith, eq-eqb, ne_eqb}
use Rattle.std.specs.Prelude.{All, count_by}
use Rattle.std.proofs.lemmas.Bool.{cases_Bool, cases_lt}
use Rattle.std.proofs.lemmas.List.{length-append}
use Rattle.std.proofs.lemmas.List.Elements.{All-cons, All-head, All-nil, All-tail}
use Rattle.std.proofs.lemmas.Option.{none-some}
use Rattle.heap_geometry.specs.declared.geometry.Geometry.{Geometry}
use Rattle.pool_model.specs.declared.event.Event.{Event}
use Rattle.pool_model.specs.declared.event.Event.TheVariants.{Alloc, Looked, Refuse, Free, Write, Put, Take, TakeNone}
use Rattle.pool_model.specs.declared.owner.Owner.{Owner}
use Rattle.pool_model.specs.declared.owner.Owner.TheVariants.{Caller, Shelf}
use Rattle.pool_model.specs.Histories.{caller_of, own}
use Rattle.pool_model.specs.Legal.{IsEmptyShelf, IsLegalEventWithoutCounts, IsLegalWithoutCounts}
use Rattle.pool_model.specs.Owned.{if_of, owned_at}
use Rattle.pool_model.specs.Parcels.{Parcel, is_put_on, lying_on, puts_on, takes_off}
use Rattle.pool_model.specs.Pool.{Block as PoolBlock, Pool, block_at, pool_of}
use Rattle.pool_model.specs.WellFormed.{IsOwner, IsWellFormed}
use Rattle.pool_model.proofs.HistoryLemmas.{EachAfter-nil, kept, own-append}
use Rattle.pool_model.proofs.OwnedLemmas.{of-self}
use Rattle.pool_model.proofs.ParcelLemmas.{in-order, lying-here}
use Rattle.pool_model.proofs.PoolLemmas.{block_at-here, every-each}
use Rattle.pool_model.proofs.WellFormedLemmas.{sound-of}
use Rattle.shelf_laws.specs.Quiet.{IsQuiet, IsQuietAfter}
use Rattle.shelf_laws.proofs.GrowLemmas.{count-cons}
use Rattle.shelf_laws.proofs.InTurnLemmas.{puts-counted}
use Rattle.shelf_laws.proofs.OwnLemmas.{quiet-each}
use Rattle.pipe_runner.specs.Senders.{PutsWithin}

-- who is no caller of the heap has no event
own-step :
    (g : Geometry) (k : ℕ) → g.callers ≤ k → (before : List Event) (event : Event) → IsLegalEventWithoutCounts g before event → own k before ≡ []
    → own k (before ++ event ∷ []) ≡ []
own-step g k far before event ok none =
    let other : caller_of event ≢ k = λ same. let lt = ok.0 in omega (arith, lt, far, same) in
    let one : own k (event ∷ []) ≡ [] = rw (ne_eqb (caller_of event) k other) refl in
    own-append k before (event ∷ []) ∙ ap (λ (l : List Event). l ++ own k (event ∷ [])) none ∙ one

pub own-none : (g : Geometry) (events : List Event) (k : ℕ) → IsLegalWithoutCounts g events → g.callers ≤ k → own k events ≡ []
own-none g events k legal far = kept (IsLegalEventWithoutCounts g) (λ h. own k h ≡ []) events (own-step g k far) legal refl

-- the history is quiet where the callers' own events are
pub quiet-closed :
    (g : Geometry) (n : ℕ) (events : List Event) → IsLegalWithoutCounts g events → ((k : ℕ) → k < g.callers → IsQuiet n 8 (own k events))
    → IsQuiet n 8 events
quiet-closed g n events legal each =
    quiet-each n 8 events (λ k. elim (cases_lt k g.callers) [
      | inl below ↦ each k below
      | inr far ↦ subst (IsQuiet n 8) (sym (own-none g events k legal (omega (arith, far)))) (EachAfter-nil (IsQuietAfter n 8))
    ])

-- the history puts on no other shelf where the callers' own events do not
tail-own :
    (P : Event → Type 0) (c : ℕ) (event : Event) (events : List Event) → All P (own c (event ∷ events)) → All P (own c events)
tail-own P c event events all =
    elim (cases_Bool (eqb (caller_of event) c)) [
      | inl hers ↦
          let is : own c (event ∷ events) ≡ event ∷ own c events = rw hers refl in
          All-tail P event (own c events) (subst (All P) is all)
      | inr other ↦
          let is : own c (event ∷ events) ≡ own c events = rw other refl in subst (All P) is all
    ]

own-first : (event : Event) (events : List Event) → own (caller_of event) (event ∷ events) ≡ event ∷ own (caller_of event) events
own-first event events = rw (eq-eqb (caller_of event) (caller_of event) refl) refl

within-each : (P : Event → Type 0) (events : List Event) → ((c : ℕ) → All P (own c events)) → All P events
within-each P [] each = All-nil P
within-each P (event ∷ events) each =
    All-cons P event events (All-head P event (own (caller_of event) events) (subst (All P) (own-first event events) (each (caller_of event))))
    (within-each P events (λ c. tail-own P c event events (each c)))

pub within-closed :
    (g : Geometry) (n : ℕ) (events : List Event) → IsLegalWithoutCounts g events → ((k : ℕ) → k < g.callers → All (PutsWithin n) (own k events))
    → All (PutsWithin n) events
within-closed g n events legal each =
    within-each (PutsWithin n) events (λ k. elim (cases_lt k g.callers) [
      | inl below ↦ each k below
      | inr far ↦ subst (All (PutsWithin n)) (sym (own-none g events k legal (omega (arith, far)))) (All-nil (PutsWithin n))
    ])

-- nothing was put on a shelf that is not the pipe's, and nothing lies there
off-one : (n shelf : ℕ) (event : Event) → n * 8 ≤ shelf → PutsWithin n event → is_put_on shelf event ≡ false
off-one n shelf (Alloc caller need place) far within = refl
off-one n shelf (Looked caller class) far within = refl
off-one n shelf (Refuse caller need) far within = refl
off-one n shelf (Free caller place) far within = refl
off-one n shelf (Write caller place i v) far within = refl
off-one n shelf (Put caller place at) far within = ne_eqb at shelf (λ same. omega (arith, far, within, same))
off-one n shelf (Take caller at place) far within = refl
off-one n shelf (TakeNone caller at) far within = refl

off-all : (n shelf : ℕ) (events : List Event) → n * 8 ≤ shelf → All (PutsWithin n) events → count_by (is_put_on shelf) events ≡ 0
off-all n shelf [] far within = refl
off-all n shelf (event ∷ events) far within =
    let first = off-one n shelf event far (All-head (PutsWithin n) event events within) in
    let rest = off-all n shelf events far (All-tail (PutsWithin n) event events within) in
    let none : count_by (is_put_on shelf) (event ∷ events) ≡ 0 + count_by (is_put_on shelf) events =
    count-cons (is_put_on shelf) event events ∙ ap (λ b. cond b 1 0 + count_by (is_put_on shelf) events) first in
    omega (arith, none, rest)

lies-none : (g : Geometry) (n shelf : ℕ) (events : List Event) → IsLegalWithoutCounts g events → All (PutsWithin n) events → n * 8 ≤ shelf → length (lying_on shelf (pool_of events)) ≡ 0
lies-none g n shelf events legal within far =
    let counted : length (puts_on shelf events) ≡ 0 = puts-counted g events shelf legal ∙ off-all n shelf events far within in
    let order = ap (λ (l : List Parcel). length l) (in-order g events shelf legal) in
    let sum = length-append (takes_off shelf events) (lying_on shelf (pool_of events)) in
    omega (arith, counted, order, sum)

owner-cases : (o : Owner) → ((c : ℕ) × (o ≡ Caller c)) ⊎ ((s : ℕ) × (o ≡ Shelf s))
owner-cases (Caller c) = inl (c, refl)
owner-cases (Shelf s) = inr (s, refl)

empty-pool : (pool : Pool) → ((block : PoolBlock) (rest : Pool) → pool ≡ block ∷ rest → ⊥) → pool ≡ []
empty-pool [] not = refl
empty-pool (block ∷ rest) not = absurd (not block rest refl)

-- no block is live where no caller owns one and the pipe's shelves are empty
pub none-live :
    (g : Geometry) (n : ℕ) (events : List Event) → IsLegalWithoutCounts g events → All (PutsWithin n) events
    → ((k place : ℕ) → k < g.callers → owned_at k place (pool_of events) ≡ None) → ((shelf : ℕ) → shelf < n * 8 → IsEmptyShelf (pool_of events) shelf)
    → pool_of events ≡ []
none-live g n events legal within nothing empty =
    empty-pool (pool_of events) (λ block rest is.
    let here : block_at block.place (pool_of events) ≡ Some block =
    ap (block_at block.place) is ∙ block_at-here block.place block rest refl in
    let sound = sound-of g events legal in
    let formed = every-each (IsWellFormed g) (pool_of events) sound.each block.place block here in
    elim (owner-cases block.owner) [
      | inl (c, owner) ↦
          let below : c < g.callers = subst (IsOwner g) owner formed.owner in
          let mine : owned_at c block.place (pool_of events) ≡ Some block = ap (if_of c) here ∙ of-self c block owner in
          none-some block (sym (nothing c block.place below) ∙ mine)
      | inr (s, owner) ↦
          elim (cases_lt s (n * 8)) [
            | inl below ↦ empty s below block.place block here owner
            | inr far ↦
                let lies = lies-none g n s events legal within (omega (arith, far)) in
                let there = ap (λ (p : Pool). length (lying_on s p)) is ∙ ap (λ (l : List Parcel). length l) (lying-here s block rest owner) in
                absurd (omega (arith, lies, there))
          ]
    ])
