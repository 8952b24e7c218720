-- A caller's blocks stay its own through its events, but for the one that they give away.
use Rattle.std.proofs.Common.{ℕ, eqb, ◌≡◌, ◌≢◌, ◌∷◌, ◌++◌, List, [], Some, refl, sym, ap, ◌∙◌, subst, inl, inr, append-nil}
use Rattle.std.proofs.lemmas.Bool.{cases_Bool, cases_eq, eq-eqb}
use Rattle.heap_geometry.specs.declared.geometry.Geometry.{Geometry}
use Rattle.heap_geometry.specs.declared.need.Need.{Need}
use Rattle.pool_model.specs.declared.event.Event.{Event}
use Rattle.pool_model.specs.declared.event.Event.TheVariants.{Alloc, Looked, Refuse, Free, Write, Put, Take, TakeNone}
use Rattle.pool_model.specs.declared.owner.Owner.TheVariants.{Caller, Shelf}
use Rattle.pool_model.specs.Histories.{own, caller_of}
use Rattle.pool_model.specs.Legal.{IsAllowed, IsLegalWithoutCounts, IsLegalEventWithoutCounts}
use Rattle.pool_model.specs.Pool.{Block, Pool, block_at, pool_of, pool_after, fresh_block, handed_to, written}
use Rattle.pool_model.proofs.OwnerLemmas.{free-elsewhere, owner-one, others-keep}
use Rattle.pool_model.proofs.HistoryLemmas.{pool_of-push, push-append, EachAfter-cut, EachAfter-last}
use Rattle.pool_model.proofs.PoolLemmas.{block_at-past, block_at-without_other, block_at-changed_other, block_at-changed_same}
use Rattle.step_machine.specs.Cores.{OwnsAfter}
use Rattle.step_machine.specs.Keeping.{Spares, AllSpare}

pub spare-append : (place : ℕ) (events more : List Event) → AllSpare place (events ++ more) → AllSpare place more
spare-append place [] more h = h
spare-append place (event ∷ events) more h = spare-append place events more h.1

-- the block at the place has this owner and this need in the pool
abbrev Keeps : Pool → ℕ → Block → Type 0
Keeps pool place block = (now : Block) × (block_at place pool ≡ Some now) × (now.owner ≡ block.owner) × (now.need ≡ block.need)

-- a caller's block keeps its owner and need through an event of the caller that spares its place
own-keeps :
    (g : Geometry) (before : List Event) (event : Event) (caller place : ℕ) (block : Block) → IsAllowed g before event
    → Spares place event → block_at place (pool_of before) ≡ Some block → block.owner ≡ Caller caller
    → Keeps (pool_after (pool_of before) event) place block
own-keeps g before (Alloc by need at) caller place block allowed spares found owned = (
  block,
  block_at-past place (fresh_block by need at) (pool_of before) (free-elsewhere g (pool_of before) by need at place block allowed found) ∙ found,
  refl,
  refl,
)
own-keeps g before (Looked by class) caller place block allowed spares found owned = (block, found, refl, refl)
own-keeps g before (Refuse by need) caller place block allowed spares found owned = (block, found, refl, refl)
own-keeps g before (Free by at) caller place block allowed spares found owned =
    (block, block_at-without_other at place (pool_of before) spares ∙ found, refl, refl)
own-keeps g before (Write by at i v) caller place block allowed spares found owned =
    elim (cases_eq place at) [
      | inl same ↦ (
        written i v block,
        rw same (block_at-changed_same at (written i v) (pool_of before) block (λ b. refl) (ap (λ (p : ℕ). block_at p (pool_of before)) (sym same) ∙ found)),
        refl,
        refl,
      )
      | inr differ ↦ (block, block_at-changed_other at place (written i v) (pool_of before) (λ b. refl) differ ∙ found, refl, refl)
    ]
own-keeps g before (Put by at shelf) caller place block allowed spares found owned =
    (block, block_at-changed_other at place (handed_to (Shelf shelf)) (pool_of before) (λ b. refl) spares ∙ found, refl, refl)
own-keeps g before (Take by shelf at) caller place block allowed spares found owned =
    let differ : place ≢ at =
    owner-one (pool_of before) (Caller caller) (Shelf shelf) at place block allowed.0 found owned (λ e. let s : Shelf shelf ≡ Caller caller = e in cc) in
    (block, block_at-changed_other at place (handed_to (Caller by)) (pool_of before) (λ b. refl) differ ∙ found, refl, refl)
own-keeps g before (TakeNone by shelf) caller place block allowed spares found owned = (block, found, refl, refl)

-- a caller's block stays its own through one event, whosever it is, where the caller's own spares the place
owns-event :
    (g : Geometry) (before : List Event) (event : Event) (caller place : ℕ) (need : Need) → IsLegalWithoutCounts g (before ++ event ∷ [])
    → AllSpare place (own caller (event ∷ [])) → OwnsAfter before caller place need → OwnsAfter (before ++ event ∷ []) caller place need
owns-event g before event caller place need legal spares owns =
    let allowed : IsAllowed g before event = (EachAfter-last (IsLegalEventWithoutCounts g) before event legal).1 in
    elim (cases_eq (caller_of event) caller) [
      | inl hers ↦
          let mine : AllSpare place (event ∷ []) = rw (eq-eqb (caller_of event) caller hers) at spares in
          let kept = own-keeps g before event caller place owns.0 allowed mine.0 owns.1 owns.2 in (
            kept.0,
            rw (pool_of-push before event) kept.1,
            kept.2 ∙ owns.2,
            kept.3 ∙ owns.3,
          )
      | inr other ↦ (
        owns.0,
        rw (pool_of-push before event) (others-keep g before event caller place owns.0 allowed other owns.1 owns.2),
        owns.2,
        owns.3,
      )
    ]

-- where all of a caller's own events spare a place, the first event does if it is the caller's, and the caller's later ones do
own-first : (caller place : ℕ) (event : Event) (rest : List Event) → AllSpare place (own caller (event ∷ rest))
    → AllSpare place (own caller (event ∷ [])) × AllSpare place (own caller rest)
own-first caller place event rest spares =
    elim (cases_Bool (eqb (caller_of event) caller)) [
      | inl hers ↦ let s : AllSpare place (event ∷ own caller rest) = rw hers at spares in rw hers ((s.0, tt), s.1)
      | inr other ↦ let s : AllSpare place (own caller rest) = rw other at spares in rw other (tt, s)
    ]

-- a caller's block stays its own through events, of which its own spare the place
pub owns-rest :
    (g : Geometry) (before rest : List Event) (caller place : ℕ) (need : Need) → IsLegalWithoutCounts g (before ++ rest)
    → AllSpare place (own caller rest) → OwnsAfter before caller place need → OwnsAfter (before ++ rest) caller place need
owns-rest g before [] caller place need legal spares owns =
    subst (λ (h : List Event). OwnsAfter h caller place need) (sym (append-nil before)) owns
owns-rest g before (event ∷ rest) caller place need legal spares owns =
    let whole : (before ++ event ∷ []) ++ rest ≡ before ++ event ∷ rest = push-append before rest event in
    let legal_rest : IsLegalWithoutCounts g ((before ++ event ∷ []) ++ rest) = subst (IsLegalWithoutCounts g) (sym whole) legal in
    let parts = own-first caller place event rest spares in
    let legal_one : IsLegalWithoutCounts g (before ++ event ∷ []) = EachAfter-cut (IsLegalEventWithoutCounts g) (before ++ event ∷ []) rest legal_rest in
    subst (λ (h : List Event). OwnsAfter h caller place need) whole
    (owns-rest g (before ++ event ∷ []) rest caller place need legal_rest parts.1
    (owns-event g before event caller place need legal_one parts.0 owns))
