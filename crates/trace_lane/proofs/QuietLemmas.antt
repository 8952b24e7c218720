-- A caller's block is as it was behind events of which its own leave it alone.
use Rattle.std.proofs.Common.{ℕ, zero, suc, true, false, eqb, ◌≡◌, ◌≢◌, ◌∷◌, ◌++◌, List, [], Some, refl, sym, ◌∙◌, subst, inl, inr, append-nil}
use Rattle.trace_lane.proofs.Common.{Geometry, Need, Small, Large, TooLarge, Event, Alloc, Looked, Refuse, Free, Put, Write, Take, TakeNone, Shelf, IsGiving}
use Rattle.trace_lane.proofs.Common.{IsLegalWithoutCounts, Block, cases_eq, cases_Bool, eq-eqb, looks, caller_of, own, handed_to, block_at, pool_of, pool_of-push}
use Rattle.pool_model.specs.declared.owner.Owner.TheVariants.{Caller}
use Rattle.pool_model.specs.Legal.{IsAllowed}
use Rattle.pool_model.specs.Pool.{fresh_block, pool_after, written}
use Rattle.pool_model.proofs.HistoryLemmas.{push-append}
use Rattle.pool_model.proofs.OwnerLemmas.{free-elsewhere, others-keep, owner-one}
use Rattle.pool_model.proofs.PoolLemmas.{block_at-past, block_at-without_other, block_at-changed_other}

-- the event neither gives the block at this place away nor writes into it; none of the events does
abbrev pub Quiet : ℕ → Event → Type 0
Quiet place (Free caller at) = place ≢ at
Quiet place (Put caller at shelf) = place ≢ at
Quiet place (Write caller at i v) = place ≢ at
Quiet place event = Unit {0}

abbrev pub AllQuiet : ℕ → List Event → Type 0
AllQuiet place [] = Unit {0}
AllQuiet place (event ∷ events) = Quiet place event × AllQuiet place events

-- an event that is quiet at a place leaves the block that a caller owns there as it is
own-quiet :
    (g : Geometry) (before : List Event) (event : Event) (caller place : ℕ) (block : Block) → IsAllowed g before event → Quiet place event
    → block_at place (pool_of before) ≡ Some block → block.owner ≡ Caller caller
    → block_at place (pool_after (pool_of before) event) ≡ Some block
own-quiet g before (Alloc by need at) caller place block allowed quiet found owned =
    block_at-past place (fresh_block by need at) (pool_of before) (free-elsewhere g (pool_of before) by need at place block allowed found) ∙ found
own-quiet g before (Looked by class) caller place block allowed quiet found owned = found
own-quiet g before (Refuse by need) caller place block allowed quiet found owned = found
own-quiet g before (Free by at) caller place block allowed quiet found owned = block_at-without_other at place (pool_of before) quiet ∙ found
own-quiet g before (Write by at i v) caller place block allowed quiet found owned =
    block_at-changed_other at place (written i v) (pool_of before) (λ b. refl) quiet ∙ found
own-quiet g before (Put by at shelf) caller place block allowed quiet found owned =
    block_at-changed_other at place (handed_to (Shelf shelf)) (pool_of before) (λ b. refl) quiet ∙ found
own-quiet g before (Take by shelf at) caller place block allowed quiet found owned =
    let differ : place ≢ at =
    owner-one (pool_of before) (Caller caller) (Shelf shelf) at place block allowed.0 found owned (λ e. let s : Shelf shelf ≡ Caller caller = e in cc) in
    block_at-changed_other at place (handed_to (Caller by)) (pool_of before) (λ b. refl) differ ∙ found
own-quiet g before (TakeNone by shelf) caller place block allowed quiet found owned = found

-- the first event's part of a caller's events, and the others'
own-first : (caller place : ℕ) (event : Event) (rest : List Event) → AllQuiet place (own caller (event ∷ rest))
    → (caller_of event ≡ caller → Quiet place event) × AllQuiet place (own caller rest)
own-first caller place event rest quiet =
    elim (cases_Bool (eqb (caller_of event) caller)) [
      | inl hers ↦ let s : AllQuiet place (event ∷ own caller rest) = rw hers at quiet in (λ is. s.0, s.1)
      | inr other ↦ (λ is. absurd (let t : false ≡ true = sym other ∙ eq-eqb (caller_of event) caller is in cc), rw other at quiet)
    ]

-- a caller's block stays as it is
pub quiet-keeps :
    (g : Geometry) (before rest : List Event) (caller place : ℕ) (block : Block) → IsLegalWithoutCounts g (before ++ rest)
    → AllQuiet place (own caller rest) → block_at place (pool_of before) ≡ Some block → block.owner ≡ Caller caller
    → block_at place (pool_of (before ++ rest)) ≡ Some block
quiet-keeps g before [] caller place block legal quiet found owned = rw (append-nil before) found
quiet-keeps g before (event ∷ rest) caller place block legal quiet found owned =
    let whole : (before ++ event ∷ []) ++ rest ≡ before ++ event ∷ rest = push-append before rest event in
    let parts = own-first caller place event rest quiet in
    let allowed : IsAllowed g before event = (legal before rest event refl).1 in
    let after : block_at place (pool_after (pool_of before) event) ≡ Some block =
    elim (cases_eq (caller_of event) caller) [
      | inl hers ↦ own-quiet g before event caller place block allowed (parts.0 hers) found owned
      | inr other ↦ others-keep g before event caller place block allowed other found owned
    ] in
    subst (λ (h : List Event). block_at place (pool_of h) ≡ Some block) whole
    (quiet-keeps g (before ++ event ∷ []) rest caller place block (subst (IsLegalWithoutCounts g) (sym whole) legal) parts.1
    (rw (pool_of-push before event) after) owned)

-- the events of an allocation leave every block alone
quiet-looks : (place caller class count : ℕ) (events : List Event) → AllQuiet place events → AllQuiet place (looks caller class count ++ events)
quiet-looks place caller class zero events h = h
quiet-looks place caller class (suc count) events h = (tt, quiet-looks place caller class count events h)

quiet-as : (place : ℕ) (events other : List Event) → events ≡ other → AllQuiet place other → AllQuiet place events
quiet-as place events other same h = subst (AllQuiet place) (sym same) h

pub quiet-giving : (place caller need at : ℕ) (n : Need) (events : List Event) → IsGiving caller need at n events → AllQuiet place events
quiet-giving place caller need at (Small class) events h =
    quiet-as place events _ h.1 (quiet-looks place caller class h.0 (Alloc caller need at ∷ []) (tt, tt))
quiet-giving place caller need at (Large units) events h = quiet-as place events (Alloc caller need at ∷ []) h (tt, tt)
quiet-giving place caller need at TooLarge events h = absurd h
