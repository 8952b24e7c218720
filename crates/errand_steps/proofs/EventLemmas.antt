-- What the event of a step says.
use Rattle.std.proofs.Common.{ℕ, Option, Some, None, ◌≡◌, ◌<◌, refl, arith, subst, ap, sym}
use Rattle.std.proofs.lemmas.Bool.{cond_both}
use Rattle.heap_geometry.specs.declared.geometry.Geometry.{Geometry}
use Rattle.heap_geometry.specs.declared.need.Need.TheVariants as need
use Rattle.heap_geometry.specs.Need.{IsNeed, need_of, block_count_of}
use Rattle.heap_geometry.specs.Place.{block_place, unit_place}
use Rattle.word_table.specs.declared.action.Found.{Found}
use Rattle.word_table.specs.declared.seat.Site.{Site}
use Rattle.word_table.specs.Sites.{IsSiteOf}
use Rattle.word_table.proofs.SeatLemmas.{block_count_of-least}
use Rattle.step_parts.specs.declared.superblock.point.BlockPoint.{BlockPoint}
use Rattle.step_parts.specs.declared.superblock.point.BlockPoint.TheVariants as block
use Rattle.step_parts.specs.declared.stack.point.StackPoint.{StackPoint}
use Rattle.step_parts.specs.declared.large.point.LargePoint.{LargePoint}
use Rattle.step_parts.specs.declared.large.point.LargePoint.TheVariants as large
use Rattle.step_parts.specs.large.Points.{IsWantOf, first_wanted}
use Rattle.step_parts.specs.large.Runs.{WantFields}
use Rattle.step_parts.specs.large.Units.{IsFirstRun}
use Rattle.step_parts.proofs.large_lemmas.LowestLemmas.{first_run-exact}
use Rattle.pool_model.specs.declared.event.Event.{Event}
use Rattle.pool_model.specs.declared.event.Event.TheVariants.{Alloc, Looked, Refuse, Free, Write, Put, Take, TakeNone}
use Rattle.pool_model.specs.Histories.{caller_of}
use Rattle.pool_model.proofs.NeedOfLemmas.{need_of-within}
use Rattle.errand_steps.specs.declared.continuation.Continuation.{Continuation}
use Rattle.errand_steps.specs.declared.point.Point.{Point}
use Rattle.errand_steps.specs.declared.point.Point.TheVariants.{Idle, Block, Stack, Desc, Partial, Large}
use Rattle.errand_steps.specs.Begins.{IsHeapBlock}
use Rattle.errand_steps.specs.tables.Blocks.{block_event}
use Rattle.errand_steps.specs.tables.Stacks.{stack_event}
use Rattle.errand_steps.specs.tables.LargeBlocks.{large_event, run_event}
use Rattle.errand_steps.specs.Events.{won_event, event_of}
use Rattle.errand_steps.specs.Fits.{FitsInBlock, FitsInLarge, FitsPoint}
use Rattle.errand_steps.specs.Points.{asked}
use Rattle.errand_steps.proofs.ContinuationLemmas.{alloc-asked, run-asked}

-- the block that an event gives, if it gives one, is one of this heap's
abbrev Gives : Geometry → Option Event → Type 0
Gives g None = Unit {0}
Gives g (Some (Alloc caller words place)) = IsHeapBlock g place (need_of words)
Gives g (Some (Looked caller class)) = Unit {0}
Gives g (Some (Refuse caller words)) = Unit {0}
Gives g (Some (Free caller place)) = Unit {0}
Gives g (Some (Write caller place i v)) = Unit {0}
Gives g (Some (Put caller place shelf)) = Unit {0}
Gives g (Some (Take caller shelf place)) = Unit {0}
Gives g (Some (TakeNone caller shelf)) = Unit {0}

-- an event that gives a block of a superblock at hand gives one of this heap's
gives-block :
    (g : Geometry) (caller : ℕ) (at : Site) (i words : ℕ) → IsSiteOf g caller at → i < block_count_of at.seat.class
    → need_of words ≡ need.Small at.seat.class → IsHeapBlock g (block_place at.frame at.seat.class i) (need_of words)
gives-block g caller at i words site within is =
    subst (λ n. IsHeapBlock g (block_place at.frame at.seat.class i) n) (sym is)
    (site.seat.class, (at.frame, i, site.frame, within, refl))

-- an event that gives a run gives one of this heap's
gives-run :
    (g : Geometry) (caller words : ℕ) (w : WantFields) (bits : ℕ) (r : Option ℕ) → IsWantOf g w → need_of words ≡ need.Large w.units
    → IsFirstRun bits w.geometry.units w.units r → Gives g (Some (run_event caller words w r))
gives-run g caller words w bits None h is lowest = tt
gives-run g caller words w bits (Some first) h is lowest =
    let needs : IsNeed (need.Large w.units) = subst IsNeed is (need_of-within words) in
    subst (λ n. IsHeapBlock g (unit_place w.geometry.frames first) n) (sym is) (
      needs,
      (
        first,
        omega (arith, lowest.within, ap (λ x. x.units) h.geometry),
        ap (λ x. unit_place x.frames first) h.geometry,
      ),
    )

gives-in_block : (g : Geometry) (caller : ℕ) (p : BlockPoint) (o : Continuation) → FitsInBlock g caller p o → Gives g (block_event caller (asked o) p)
gives-in_block g caller (block.PopBlock at share a prefix) o h =
    gives-block g caller at a.avail (asked o) h.point.site h.point.anchor.avail (alloc-asked g caller at.seat o h.goes h.continuation)
gives-in_block g caller (block.InstallSuperblock at) o h =
    gives-block g caller at 0 (asked o) h.point (omega (arith, block_count_of-least at.seat.class h.point.seat.class))
    (alloc-asked g caller at.seat o h.goes h.continuation)
gives-in_block g caller p o h = tt

gives-in_stack : (g : Geometry) (caller words : ℕ) (p : StackPoint) → Gives g (stack_event caller words p)
gives-in_stack g caller words p = grind (arith)

gives-in_large : (g : Geometry) (caller : ℕ) (p : LargePoint) (o : Continuation) → FitsInLarge g p o → Gives g (large_event caller (asked o) p)
gives-in_large g caller (large.TakeRun w bits) o h =
    gives-run g caller (asked o) w bits (first_wanted w bits) h.point (run-asked w.units o h.goes) (first_run-exact bits w.geometry.units w.units)
gives-in_large g caller p o h = tt

gives-won : (g : Geometry) (caller : ℕ) (p : Point) → FitsPoint g caller p → Gives g (won_event caller p)
gives-won g caller Idle h = tt
gives-won g caller (Block p o) h = gives-in_block g caller p o h
gives-won g caller (Stack p o) h = gives-in_stack g caller (asked o) p
gives-won g caller (Desc p o) h = tt
gives-won g caller (Partial p o) h = tt
gives-won g caller (Large p o) h = gives-in_large g caller p o h

-- a block that a step gives is one of this heap's
pub event_given :
    (g : Geometry) (caller : ℕ) (p : Point) (x : Found) (by words place : ℕ) → FitsPoint g caller p
    → event_of caller p x ≡ Some (Alloc by words place) → IsHeapBlock g place (need_of words)
unfolding event_of
event_given g caller p x by words place h is =
    let gives : Gives g (event_of caller p x) =
    cond_both x.won (won_event caller p) None (λ o. Gives g o) (λ e. gives-won g caller p h) (λ e. tt) in
    subst (Gives g) is gives

-- an event is this caller's
abbrev IsOwn : ℕ → Option Event → Type 0
IsOwn caller None = Unit {0}
IsOwn caller (Some e) = caller_of e ≡ caller

own-block : (caller words : ℕ) (p : BlockPoint) → IsOwn caller (block_event caller words p)
own-block caller words p = grind (arith)

own-stack : (caller words : ℕ) (p : StackPoint) → IsOwn caller (stack_event caller words p)
own-stack caller words p = grind (arith)

own-large : (caller words : ℕ) (p : LargePoint) → IsOwn caller (large_event caller words p)
own-large caller words p = grind (arith)

own-won : (caller : ℕ) (p : Point) → IsOwn caller (won_event caller p)
own-won caller Idle = tt
own-won caller (Block p o) = own-block caller (asked o) p
own-won caller (Stack p o) = own-stack caller (asked o) p
own-won caller (Desc p o) = tt
own-won caller (Partial p o) = tt
own-won caller (Large p o) = own-large caller (asked o) p

-- an event is its caller's own
pub event_own : (caller : ℕ) (p : Point) (x : Found) (e : Event) → event_of caller p x ≡ Some e → caller_of e ≡ caller
unfolding event_of
event_own caller p x e is =
    let own : IsOwn caller (event_of caller p x) =
    cond_both x.won (won_event caller p) None (λ o. IsOwn caller o) (λ e. own-won caller p) (λ e. tt) in
    subst (IsOwn caller) is own
