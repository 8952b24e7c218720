-- A step gives away no block but the one that leaves.
use Rattle.std.proofs.Common.{ℕ, Option, Some, None, ◌≡◌, ◌<◌, ◌∷◌, List, [], arith, refl, sym, subst, inl, inr, eqb, Contains}
use Rattle.std.proofs.lemmas.Bool.{cases_Bool, cond_both}
use Rattle.heap_geometry.specs.declared.geometry.Geometry.{Geometry}
use Rattle.heap_geometry.specs.declared.need.Need.{Need}
use Rattle.word_table.specs.declared.action.Found.{Found}
use Rattle.step_parts.specs.declared.superblock.point.BlockPoint.{BlockPoint}
use Rattle.step_parts.specs.declared.superblock.point.BlockPoint.TheVariants as block
use Rattle.step_parts.specs.declared.stack.point.StackPoint.{StackPoint}
use Rattle.step_parts.specs.declared.large.point.LargePoint.{LargePoint}
use Rattle.step_parts.specs.declared.large.point.LargePoint.TheVariants as large
use Rattle.pool_model.specs.declared.event.Event.{Event}
use Rattle.pool_model.specs.declared.event.Event.TheVariants.{Free, Put}
use Rattle.pool_model.specs.declared.owner.Owner.TheVariants.{Caller}
use Rattle.pool_model.specs.Histories.{caller_of, own}
use Rattle.pool_model.specs.Legal.{IsLegalWithoutCounts}
use Rattle.pool_model.specs.Pool.{Block as Live, block_at, pool_of}
use Rattle.errand_steps.specs.declared.continuation.Continuation.{Continuation}
use Rattle.errand_steps.specs.declared.point.Point.{Point}
use Rattle.errand_steps.specs.declared.point.Point.TheVariants.{Idle, Block, Stack, Desc, Partial, Large}
use Rattle.errand_steps.specs.tables.Blocks.{block_event}
use Rattle.errand_steps.specs.tables.Stacks.{stack_event}
use Rattle.errand_steps.specs.tables.LargeBlocks.{large_event}
use Rattle.errand_steps.specs.Events.{won_event, event_of}
use Rattle.errand_steps.specs.Points.{asked}
use Rattle.errand_steps.specs.Steps.{State, Step, event_at, found_at, with_event}
use Rattle.sound_state.specs.Sound.{IsSoundWithoutCounts}
use Rattle.sound_state.proofs.EveryStep.{steps-sound}
use Rattle.step_machine.specs.Cores.{OwnsAfter}
use Rattle.step_machine.specs.Keeping.{Spares, AllSpare}
use Rattle.step_machine.proofs.KeepLemmas.{owns-rest}
use Rattle.owned_words.specs.Leaving.{concerned, leaving}
use Rattle.owned_words.proofs.Concerned.{leaving-concerned, the-one}

-- the block that the event gives away, if it gives one away, is at one of these places
abbrev GivesOf : List ℕ → Option Event → Type 0
GivesOf places (Some (Free by place)) = Contains places place
GivesOf places (Some (Put by place shelf)) = Contains places place
GivesOf places event = Unit {0}

-- the event of a point gives away none but the block that leaves there
gives-block : (caller words : ℕ) (p : BlockPoint) (o : Continuation) → GivesOf (leaving (Block p o)) (block_event caller words p)
gives-block caller words (block.PushBlock at i a stored heap) o = the-one _
gives-block caller words p o = tt

gives-stack : (caller words : ℕ) (p : StackPoint) (places : List ℕ) → GivesOf places (stack_event caller words p)
gives-stack caller words p places = grind (arith)

gives-large : (caller words : ℕ) (p : LargePoint) (o : Continuation) → GivesOf (leaving (Large p o)) (large_event caller words p)
gives-large caller words (large.FreeRun place run) o = the-one place
gives-large caller words (large.PutBlock shelf place need) o = the-one place
gives-large caller words p o = grind (arith)

gives-won : (caller : ℕ) (p : Point) → GivesOf (leaving p) (won_event caller p)
gives-won caller Idle = tt
gives-won caller (Block p o) = gives-block caller (asked o) p o
gives-won caller (Stack p o) = gives-stack caller (asked o) p (leaving (Stack p o))
gives-won caller (Desc p o) = tt
gives-won caller (Partial p o) = tt
gives-won caller (Large p o) = gives-large caller (asked o) p o

gives-event : (caller : ℕ) (p : Point) (x : Found) → GivesOf (leaving p) (event_of caller p x)
unfolding event_of
gives-event caller p x = cond_both x.won (won_event caller p) None (GivesOf (leaving p)) (λ e. gives-won caller p) (λ e. tt)

pub frees-leaving : (caller by place : ℕ) (p : Point) (x : Found) → event_of caller p x ≡ Some (Free by place) → Contains (leaving p) place
frees-leaving caller by place p x is = subst (GivesOf (leaving p)) is (gives-event caller p x)

pub puts-leaving : (caller by place shelf : ℕ) (p : Point) (x : Found) → event_of caller p x ≡ Some (Put by place shelf) → Contains (leaving p) place
puts-leaving caller by place shelf p x is = subst (GivesOf (leaving p)) is (gives-event caller p x)

-- an event that gives away none but blocks at these places spares every other place
spares-others : (places : List ℕ) (place : ℕ) (event : Event) → GivesOf places (Some event) → ¬ Contains places place → Spares place event
spares-others places place (Free by at) gives apart = λ same. apart (subst (Contains places) (sym same) gives)
spares-others places place (Put by at shelf) gives apart = λ same. apart (subst (Contains places) (sym same) gives)
spares-others places place event gives apart = tt

-- so do the caller's own of it alone
own-spares : (caller place : ℕ) (event : Event) → Spares place event → AllSpare place (own caller (event ∷ []))
own-spares caller place event spares =
    elim (cases_Bool (eqb (caller_of event) caller)) [
      | inl hers ↦ rw hers (spares, tt)
      | inr other ↦ rw other tt
    ]

-- a caller's block at another place stays its own behind the event of a step, if there is one
stays-with :
    (g : Geometry) (history : List Event) (event : Option Event) (places : List ℕ) (caller place : ℕ) (need : Need)
    → IsLegalWithoutCounts g (with_event history event) → GivesOf places event → ¬ Contains places place → OwnsAfter history caller place need
    → OwnsAfter (with_event history event) caller place need
stays-with g history None places caller place need legal gives apart owns = owns
stays-with g history (Some event) places caller place need legal gives apart owns =
    owns-rest g history (event ∷ []) caller place need legal (own-spares caller place event (spares-others places place event gives apart)) owns

pub stays-own :
    (g : Geometry) (s : State) (caller place : ℕ) (after : State) (b : Live) → IsSoundWithoutCounts g s → caller < g.callers → Step s caller after
    → block_at place (pool_of s.history) ≡ Some b → b.owner ≡ Caller caller → ¬ Contains (leaving (s.errand caller).point) place
    → OwnsAfter after.history caller place b.need
stays-own g s caller place after b sound has step found owned apart =
    let legal = subst (IsLegalWithoutCounts g) step.history (steps-sound g s caller after sound has step).legal in
    let point = (s.errand caller).point in
    subst (λ h. OwnsAfter h caller place b.need) (sym step.history)
    (stays-with g s.history (event_at s caller) (leaving point) caller place b.need legal (gives-event caller point (found_at s caller)) apart
    (b, found, owned, refl))

-- so does one that the call isn't about
pub stays-unconcerned :
    (g : Geometry) (s : State) (caller place : ℕ) (after : State) (b : Live) → IsSoundWithoutCounts g s → caller < g.callers → Step s caller after
    → block_at place (pool_of s.history) ≡ Some b → b.owner ≡ Caller caller → ¬ Contains (concerned (s.errand caller).point) place
    → OwnsAfter after.history caller place b.need
stays-unconcerned g s caller place after b sound has step found owned apart =
    stays-own g s caller place after b sound has step found owned (λ there. apart (leaving-concerned (s.errand caller).point place there))
