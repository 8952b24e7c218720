-- A step leaves the blocks that other callers own, and those on shelves but one that it takes off.
use Rattle.std.proofs.Common.{ℕ, Option, Some, None, ◌≡◌, ◌≢◌, ◌<◌, ◌⊎◌, List, refl, ap, sym, subst, inl, inr, ◌∙◌}
use Rattle.std.proofs.lemmas.Bool.{cases_eq}
use Rattle.heap_geometry.specs.declared.geometry.Geometry.{Geometry}
use Rattle.pool_model.specs.declared.event.Event.{Event}
use Rattle.pool_model.specs.declared.event.Event.TheVariants.{Alloc, Looked, Refuse, Free, Write, Put, Take, TakeNone}
use Rattle.pool_model.specs.declared.owner.Owner.{Owner}
use Rattle.pool_model.specs.declared.owner.Owner.TheVariants.{Caller, Shelf}
use Rattle.pool_model.specs.Histories.{caller_of}
use Rattle.pool_model.specs.Legal.{IsAllowed, IsLegalEventWithoutCounts, IsLegalWithoutCounts}
use Rattle.pool_model.specs.Pool.{Block, block_at, fresh_block, handed_to, pool_after, pool_of, written}
use Rattle.pool_model.proofs.HistoryLemmas.{EachAfter-last, pool_of-push}
use Rattle.pool_model.proofs.OwnerLemmas.{free-elsewhere, others-keep, owner-one}
use Rattle.pool_model.proofs.PoolLemmas.{block_at-changed_other, block_at-past, block_at-without_other}
use Rattle.errand_steps.specs.Steps.{State, Step, event_at, found_at, with_event}
use Rattle.errand_steps.proofs.EventLemmas.{event_own}
use Rattle.sound_state.specs.Sound.{IsSoundWithoutCounts}
use Rattle.sound_state.proofs.EveryStep.{steps-sound}

-- one event more, if there is one, that isn't the owner's
kept-with :
    (g : Geometry) (history : List Event) (event : Option Event) (owner place : ℕ) (b : Block) → IsLegalWithoutCounts g (with_event history event)
    → ((e : Event) → event ≡ Some e → caller_of e ≢ owner) → block_at place (pool_of history) ≡ Some b → b.owner ≡ Caller owner
    → block_at place (pool_of (with_event history event)) ≡ Some b
kept-with g history None owner place b legal differ found owned = found
kept-with g history (Some event) owner place b legal differ found owned =
    let allowed = (EachAfter-last (IsLegalEventWithoutCounts g) history event legal).1 in
    ap (block_at place) (pool_of-push history event) ∙ others-keep g history event owner place b allowed (differ event refl) found owned

pub others-blocks :
    (g : Geometry) (s : State) (caller other place : ℕ) (after : State) (b : Block) → IsSoundWithoutCounts g s → caller < g.callers
    → Step s caller after → other ≢ caller → block_at place (pool_of s.history) ≡ Some b → b.owner ≡ Caller other
    → block_at place (pool_of after.history) ≡ Some b
others-blocks g s caller other place after b sound has step differ found owned =
    let legal = subst (IsLegalWithoutCounts g) step.history (steps-sound g s caller after sound has step).legal in
    let apart = λ (e : Event) (is : event_at s caller ≡ Some e) (same : caller_of e ≡ other).
    differ (sym same ∙ event_own caller (s.errand caller).point (found_at s caller) e is) in
    ap (λ h. block_at place (pool_of h)) step.history ∙ kept-with g s.history (event_at s caller) other place b legal apart found owned

-- a block on a shelf stays there, or the event takes it off
abbrev StaysOn : List Event → Event → ℕ → ℕ → Block → Type 0
StaysOn history event shelf place b = (block_at place (pool_after (pool_of history) event) ≡ Some b) ⊎ (event ≡ Take (caller_of event) shelf place)

no-caller : (caller shelf : ℕ) → Caller caller ≢ Shelf shelf
no-caller caller shelf = λ (e : Caller caller ≡ Shelf shelf). cc

abbrev shelf_number : Owner → ℕ
shelf_number (Shelf k) = k
shelf_number o = 0

stays-on :
    (g : Geometry) (history : List Event) (event : Event) (shelf place : ℕ) (b : Block) → IsAllowed g history event
    → block_at place (pool_of history) ≡ Some b → b.owner ≡ Shelf shelf → StaysOn history event shelf place b
stays-on g history (Alloc caller need at) shelf place b allowed found lies =
    inl (block_at-past place (fresh_block caller need at) (pool_of history)
    (free-elsewhere g (pool_of history) caller need at place b allowed found) ∙ found)
stays-on g history (Looked caller class) shelf place b allowed found lies = inl found
stays-on g history (Refuse caller need) shelf place b allowed found lies = inl found
stays-on g history (Free caller at) shelf place b allowed found lies =
    inl (block_at-without_other at place (pool_of history)
    (owner-one (pool_of history) (Shelf shelf) (Caller caller) at place b allowed found lies (no-caller caller shelf)) ∙ found)
stays-on g history (Write caller at i v) shelf place b allowed found lies =
    inl (block_at-changed_other at place (written i v) (pool_of history) (λ x. refl)
    (owner-one (pool_of history) (Shelf shelf) (Caller caller) at place b (allowed.0, allowed.1, allowed.2) found lies (no-caller caller shelf)) ∙ found)
stays-on g history (Put caller at on) shelf place b allowed found lies =
    inl (block_at-changed_other at place (handed_to (Shelf on)) (pool_of history) (λ x. refl)
    (owner-one (pool_of history) (Shelf shelf) (Caller caller) at place b allowed.0 found lies (no-caller caller shelf)) ∙ found)
stays-on g history (Take caller off at) shelf place b allowed found lies =
    elim (cases_eq place at) [
      | inl same ↦
          let here : Some b ≡ Some allowed.0.0 = sym found ∙ ap (λ p. block_at p (pool_of history)) same ∙ allowed.0.1 in
          let one : b ≡ allowed.0.0 = cc in
          let on : off ≡ shelf = ap shelf_number (sym allowed.0.2 ∙ sym (ap (λ (x : Block). x.owner) one) ∙ lies) in
          inr (ap (λ k. Take caller k at) on ∙ ap (Take caller shelf) (sym same))
      | inr differ ↦ inl (block_at-changed_other at place (handed_to (Caller caller)) (pool_of history) (λ x. refl) differ ∙ found)
    ]
stays-on g history (TakeNone caller on) shelf place b allowed found lies = inl found

shelved-with :
    (g : Geometry) (history : List Event) (event : Option Event) (caller shelf place : ℕ) (b : Block)
    → IsLegalWithoutCounts g (with_event history event) → ((e : Event) → event ≡ Some e → caller_of e ≡ caller)
    → block_at place (pool_of history) ≡ Some b → b.owner ≡ Shelf shelf
    → (block_at place (pool_of (with_event history event)) ≡ Some b) ⊎ (event ≡ Some (Take caller shelf place))
shelved-with g history None caller shelf place b legal by found lies = inl found
shelved-with g history (Some event) caller shelf place b legal by found lies =
    elim (stays-on g history event shelf place b (EachAfter-last (IsLegalEventWithoutCounts g) history event legal).1 found lies) [
      | inl stays ↦ inl (ap (block_at place) (pool_of-push history event) ∙ stays)
      | inr takes ↦ inr (ap Some (takes ∙ ap (λ c. Take c shelf place) (by event refl)))
    ]

pub shelved-blocks :
    (g : Geometry) (s : State) (caller shelf place : ℕ) (after : State) (b : Block) → IsSoundWithoutCounts g s → caller < g.callers
    → Step s caller after → block_at place (pool_of s.history) ≡ Some b → b.owner ≡ Shelf shelf
    → (block_at place (pool_of after.history) ≡ Some b) ⊎ (event_at s caller ≡ Some (Take caller shelf place))
shelved-blocks g s caller shelf place after b sound has step found lies =
    let legal = subst (IsLegalWithoutCounts g) step.history (steps-sound g s caller after sound has step).legal in
    let by = λ (e : Event) (is : event_at s caller ≡ Some e). event_own caller (s.errand caller).point (found_at s caller) e is in
    elim (shelved-with g s.history (event_at s caller) caller shelf place b legal by found lies) [
      | inl stays ↦ inl (ap (λ h. block_at place (pool_of h)) step.history ∙ stays)
      | inr takes ↦ inr takes
    ]
