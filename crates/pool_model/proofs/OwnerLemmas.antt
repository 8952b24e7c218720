-- Only its owner's events change a block.
use Rattle.std.proofs.Common.{ℕ, eqb, ◌≡◌, ◌≢◌, List, [], ◌∷◌, ◌++◌, Some, refl, sym, ◌∙◌, ap, subst, inl, inr, arith, append-nil}
use Rattle.std.proofs.lemmas.Bool.{cases_Bool, eqb-false}
use Rattle.heap_geometry.specs.declared.geometry.Geometry.{Geometry}
use Rattle.heap_geometry.specs.Need.{need_of}
use Rattle.heap_geometry.specs.Place.{IsApart}
use Rattle.pool_model.specs.declared.owner.Owner.{Owner}
use Rattle.pool_model.specs.declared.owner.Owner.TheVariants.{Caller, Shelf}
use Rattle.pool_model.specs.declared.event.Event.{Event}
use Rattle.pool_model.specs.declared.event.Event.TheVariants.{Alloc, Looked, Refuse, Free, Write, Put, Take, TakeNone}
use Rattle.pool_model.specs.Histories.{caller_of, own}
use Rattle.pool_model.specs.Pool.{Block, Pool, block_at, Owns, span_of, fresh_block, written, handed_to, pool_after, pool_of}
use Rattle.pool_model.specs.Legal.{IsAllowed, IsFree, IsLegalWithoutCounts}
use Rattle.pool_model.proofs.PoolLemmas.{place-found, block_at-past, block_at-without_other, block_at-changed_other}
use Rattle.pool_model.proofs.HistoryLemmas.{pool_of-push, push-append}
use Rattle.pool_model.proofs.NeedOfLemmas.{need_of-within}
use Rattle.pool_model.proofs.WellFormedLemmas.{apart-differ, free-apart}

-- a fresh block is at no live place
pub free-elsewhere :
    (g : Geometry) (pool : Pool) (caller need place at : ℕ) (block : Block) → IsFree g pool (need_of need) place
    → block_at at pool ≡ Some block → place ≢ at
free-elsewhere g pool caller need place at block free found same =
    let apart : IsApart (span_of (fresh_block caller need place)) (span_of block) =
    free-apart g pool (need_of need) (fresh_block caller need place) refl (need_of-within need) free at block found in
    let here : block.place ≡ at = place-found at pool block found in
    apart-differ (span_of (fresh_block caller need place)) (span_of block) (omega arith) (omega arith) apart (same ∙ sym here)

-- a block that one owner owns is no other's
pub owner-one : (pool : Pool) (owner other : Owner) (place at : ℕ) (block : Block) → Owns pool other place → block_at at pool ≡ Some block
    → block.owner ≡ owner → other ≢ owner → at ≢ place
owner-one pool owner other place at block owns found owned ne same =
    let e : block_at at pool ≡ Some owns.0 = ap (λ (p : ℕ). block_at p pool) same ∙ owns.1 in
    let blocks : owns.0 ≡ block = cc in
    ne (sym owns.2 ∙ ap (λ (b : Block). b.owner) blocks ∙ owned)

pub others-keep :
    (g : Geometry) (before : List Event) (event : Event) (caller place : ℕ) (block : Block) → IsAllowed g before event
    → caller_of event ≢ caller → block_at place (pool_of before) ≡ Some block → block.owner ≡ Caller caller
    → block_at place (pool_after (pool_of before) event) ≡ Some block
others-keep g before (Alloc other need at) caller place block allowed ne found owned =
    block_at-past place (fresh_block other need at) (pool_of before)
    (free-elsewhere g (pool_of before) other need at place block allowed found) ∙ found
others-keep g before (Looked other class) caller place block allowed ne found owned = found
others-keep g before (Refuse other need) caller place block allowed ne found owned = found
others-keep g before (Free other at) caller place block allowed ne found owned =
    block_at-without_other at place (pool_of before)
    (owner-one (pool_of before) (Caller caller) (Caller other) at place block allowed found owned (λ e. ne (let s : Caller other ≡ Caller caller = e in cc)))
    ∙ found
others-keep g before (Write other at i v) caller place block allowed ne found owned =
    block_at-changed_other at place (written i v) (pool_of before) (λ b. refl)
    (owner-one (pool_of before) (Caller caller) (Caller other) at place block (allowed.0, allowed.1, allowed.2) found owned
    (λ e. ne (let s : Caller other ≡ Caller caller = e in cc)))
    ∙ found
others-keep g before (Put other at shelf) caller place block allowed ne found owned =
    block_at-changed_other at place (handed_to (Shelf shelf)) (pool_of before) (λ b. refl)
    (owner-one (pool_of before) (Caller caller) (Caller other) at place block allowed.0 found owned
    (λ e. ne (let s : Caller other ≡ Caller caller = e in cc)))
    ∙ found
others-keep g before (Take other shelf at) caller place block allowed ne found owned =
    block_at-changed_other at place (handed_to (Caller other)) (pool_of before) (λ b. refl)
    (owner-one (pool_of before) (Caller caller) (Shelf shelf) at place block allowed.0 found owned
    (λ e. let s : Shelf shelf ≡ Caller caller = e in cc))
    ∙ found
others-keep g before (TakeNone other shelf) caller place block allowed ne found owned = found

-- a list that begins with an event of the caller isn't one without its events
pub own-none : (caller : ℕ) (event : Event) (rest : List Event) → own caller (event ∷ rest) ≡ [] → (caller_of event ≢ caller) × (own caller rest ≡ [])
own-none caller event rest none =
    elim (cases_Bool (eqb (caller_of event) caller)) [
      | inl hers ↦ absurd (let e : event ∷ own caller rest ≡ [] = rw hers at none in cc)
      | inr other ↦ (eqb-false (caller_of event) caller other, rw other at none)
    ]

pub others-keep_all :
    (g : Geometry) (history rest : List Event) (caller place : ℕ) (block : Block) → IsLegalWithoutCounts g (history ++ rest)
    → own caller rest ≡ [] → block_at place (pool_of history) ≡ Some block → block.owner ≡ Caller caller
    → block_at place (pool_of (history ++ rest)) ≡ Some block
others-keep_all g history [] caller place block legal none found owned =
    rw (append-nil history) found
others-keep_all g history (event ∷ rest) caller place block legal none found owned =
    let whole : (history ++ event ∷ []) ++ rest ≡ history ++ event ∷ rest = push-append history rest event in
    let parts = own-none caller event rest none in
    let after : block_at place (pool_of (history ++ event ∷ [])) ≡ Some block =
    rw (pool_of-push history event)
    (others-keep g history event caller place block (legal history rest event refl).1 parts.0 found owned) in
    subst (λ (h : List Event). block_at place (pool_of h) ≡ Some block) whole
    (others-keep_all g (history ++ event ∷ []) rest caller place block (subst (IsLegalWithoutCounts g) (sym whole) legal) parts.1 after
    owned)
