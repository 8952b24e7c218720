-- What a plain pool's answers mean for the caller.
use Rattle.std.proofs.Common.{ℕ, ◌≡◌, ◌<◌, List, [], ◌∷◌, Some, refl, sym, ◌∙◌, ap, subst, append-nil}
use Rattle.heap_geometry.specs.declared.need.Need.{Need}
use Rattle.heap_geometry.specs.declared.need.Need.TheVariants.{Small, Large, TooLarge as NoBlock}
use Rattle.heap_geometry.specs.Need.{need_of}
use Rattle.pool_model.specs.declared.owner.Owner.TheVariants.{Caller}
use Rattle.pool_model.specs.declared.event.Event.{Event}
use Rattle.pool_model.specs.declared.event.Event.TheVariants.{Alloc, Write, Put as PutEvent, Take, TakeNone}
use Rattle.plain_pool.specs.declared.answers.PlainAlloc.{PlainAlloc}
use Rattle.plain_pool.specs.declared.answers.PlainAlloc.TheVariants.{Given, Refused, TooLarge}
use Rattle.plain_pool.specs.declared.answers.PlainPut.{PlainPut}
use Rattle.plain_pool.specs.declared.answers.PlainPut.TheVariants.{Put, Full}
use Rattle.plain_pool.specs.declared.answers.PlainTake.{PlainTake}
use Rattle.plain_pool.specs.declared.answers.PlainTake.TheVariants.{Got, Empty}
use Rattle.pool_model.specs.Pool.{block_at, Owns, fresh_block, written, handed_to, pool_after}
use Rattle.pool_model.specs.Calls.{IsGiving, IsRefusing}
use Rattle.plain_pool.specs.Plain.{PlainState, pool_in, AddsEvents, IsChosen, OwnsWord, refusal_of}
use Rattle.plain_pool.specs.Answers.{IsAllocated, IsPut, IsTaken, ended_of, AddsEventsOf}
use Rattle.pool_model.proofs.PoolLemmas.{block_at-here, block_at-changed_same}
use Rattle.pool_model.proofs.HistoryLemmas.{pool_of-push}

pub gains-geometry : (old new : PlainState) (added : List Event) → AddsEvents old new added → new.geometry ≡ old.geometry
gains-geometry old new added h = ap (λ (s : PlainState). s.geometry) h

pub gains-pool : (old new : PlainState) (event : Event) → AddsEvents old new (event ∷ []) → pool_in new ≡ pool_after (pool_in old) event
gains-pool old new event h = ap pool_in h ∙ pool_of-push old.events event

pub allocated-geometry :
    (old new : PlainState) (caller need : ℕ) (answer : PlainAlloc) → IsAllocated old new caller need answer → new.geometry ≡ old.geometry
allocated-geometry old new caller need (Given place words) h = gains-geometry old new (Alloc caller need place ∷ []) h.2
allocated-geometry old new caller need Refused h = gains-geometry old new (refusal_of caller need (need_of need)) h.2
allocated-geometry old new caller need TooLarge h = ap (λ (s : PlainState). s.geometry) h.1

pub put-geometry :
    (old new : PlainState) (caller place shelf : ℕ) (answer : PlainPut) → IsPut old new caller place shelf answer → new.geometry ≡ old.geometry
put-geometry old new caller place shelf Put h = gains-geometry old new (PutEvent caller place shelf ∷ []) h.1
put-geometry old new caller place shelf Full h = ap (λ (s : PlainState). s.geometry) h.1

pub taken-geometry :
    (old new : PlainState) (caller shelf : ℕ) (answer : PlainTake) → IsTaken old new caller shelf answer → new.geometry ≡ old.geometry
taken-geometry old new caller shelf (Got place words) h = gains-geometry old new (Take caller shelf place ∷ []) h.2
taken-geometry old new caller shelf Empty h = gains-geometry old new (TakeNone caller shelf ∷ []) h.1

-- a caller that is given a block owns it, with each of its words
pub given-live :
    (old new : PlainState) (caller need place words : ℕ) → IsAllocated old new caller need (Given place words)
    → block_at place (pool_in new) ≡ Some (fresh_block caller need place)
given-live old new caller need place words h =
    ap (block_at place) (gains-pool old new (Alloc caller need place) h.2)
    ∙ block_at-here place (fresh_block caller need place) (pool_in old) refl

pub given-owns :
    (old new : PlainState) (caller need place words : ℕ) → IsAllocated old new caller need (Given place words)
    → Owns (pool_in new) (Caller caller) place
given-owns old new caller need place words h = (fresh_block caller need place, given-live old new caller need place words h, refl)

pub given-word :
    (old new : PlainState) (caller need place words i : ℕ) → IsAllocated old new caller need (Given place words) → i < words
    → OwnsWord (pool_in new) caller place i
given-word old new caller need place words i h below =
    (fresh_block caller need place, given-live old new caller need place words h, refl, subst (λ (n : ℕ). i < n) h.1 below)

-- a caller that writes a word of a block still owns that word
pub written-word :
    (old new : PlainState) (caller place i v : ℕ) → AddsEvents old new (Write caller place i v ∷ []) → OwnsWord (pool_in old) caller place i
    → OwnsWord (pool_in new) caller place i
written-word old new caller place i v h owns = (
  written i v owns.0,
  ap (block_at place) (gains-pool old new (Write caller place i v) h)
      ∙ block_at-changed_same place (written i v) (pool_in old) owns.0 (λ b. refl) owns.1,
  owns.2,
  owns.3,
)

-- a caller that takes a block from a shelf owns it
pub taken-owns :
    (old new : PlainState) (caller shelf place words : ℕ) → IsTaken old new caller shelf (Got place words)
    → Owns (pool_in new) (Caller caller) place
taken-owns old new caller shelf place words h = (
  handed_to (Caller caller) h.0.0,
  ap (block_at place) (gains-pool old new (Take caller shelf place) h.2)
      ∙ block_at-changed_same place (handed_to (Caller caller)) (pool_in old) h.0.0 (λ b. refl) h.0.1,
  refl,
)

-- the events of an allocation are those of its answer
giving : (caller need place : ℕ) (n : Need) → ¬ (n ≡ NoBlock) → IsGiving caller need place n (Alloc caller need place ∷ [])
giving caller need place (Small class) some = (0, refl)
giving caller need place (Large units) some = refl
giving caller need place NoBlock some = some refl

refusing : (caller need : ℕ) (n : Need) → ¬ (n ≡ NoBlock) → IsRefusing caller need n (refusal_of caller need n)
refusing caller need (Small class) some = (0, refl)
refusing caller need (Large units) some = refl
refusing caller need NoBlock some = some refl

chosen-some : (old : PlainState) (place : ℕ) (n : Need) → IsChosen old.geometry (pool_in old) n place → ¬ (n ≡ NoBlock)
chosen-some old place (Small class) chosen same = cc
chosen-some old place (Large units) chosen same = cc
chosen-some old place NoBlock chosen same = chosen

pub allocated-events :
    (old new : PlainState) (caller need : ℕ) (answer : PlainAlloc) → IsAllocated old new caller need answer
    → AddsEventsOf old new caller (ended_of need answer)
allocated-events old new caller need (Given place words) h =
    (Alloc caller need place ∷ [], h.2, giving caller need place (need_of need) (chosen-some old place (need_of need) h.0))
allocated-events old new caller need Refused h =
    (refusal_of caller need (need_of need), h.2, refusing caller need (need_of need) h.0)
allocated-events old new caller need TooLarge h =
    ([], h.1 ∙ ap (λ (xs : List Event). record { geometry = old.geometry; events = xs }) (sym (append-nil old.events)), refl)
