-- A step of a call leaves the stage that is about a block as it is, or leads to one that is about none.
use Rattle.std.proofs.Common.{ℕ, true, Option, Some, None, ◌≡◌, arith, refl, inl, inr}
use Rattle.std.proofs.lemmas.Bool.{cases_Bool}
use Rattle.word_table.specs.declared.action.Found.{Found}
use Rattle.word_table.specs.Seats.{SeatFields}
use Rattle.step_parts.specs.declared.superblock.point.BlockPoint.{BlockPoint}
use Rattle.step_parts.specs.declared.superblock.point.BlockPoint.TheVariants as block
use Rattle.step_parts.specs.declared.stack.point.StackPoint.{StackPoint}
use Rattle.step_parts.specs.declared.hazard.point.DescPoint.{DescPoint}
use Rattle.step_parts.specs.hazard.Retired.{first_unheld}
use Rattle.step_parts.specs.declared.partial.point.PartialPoint.{PartialPoint}
use Rattle.step_parts.specs.declared.large.point.LargePoint.{LargePoint}
use Rattle.errand_steps.specs.declared.continuation.Continuation.{Continuation}
use Rattle.errand_steps.specs.declared.next.Next.{Next}
use Rattle.errand_steps.specs.declared.next.Next.TheVariants as next
use Rattle.errand_steps.specs.declared.point.Point.{Point}
use Rattle.errand_steps.specs.declared.point.Point.TheVariants.{Idle, Block, Stack, Desc, Partial, Large}
use Rattle.errand_steps.specs.tables.CallStage.{StageOfCall, continuation_stage, freeing, putting, writing, reading}
use Rattle.errand_steps.specs.Errands.{ErrandFields, after_list, after_turn, course_of, is_full, picked, point_after, settle_of}
use Rattle.errand_steps.specs.Nexts.{next_of, resumed}
use Rattle.sound_laws.specs.events.Stages.{stage_of}

-- the stage now is about no block, or it is the stage before
abbrev pub IsKept : StageOfCall → StageOfCall → Type 0
IsKept (freeing place need) before = freeing place need ≡ before
IsKept (putting place need shelf) before = putting place need shelf ≡ before
IsKept (writing place i value) before = writing place i value ≡ before
IsKept (reading place i) before = reading place i ≡ before
IsKept now before = Unit {0}

-- the stage of the call where it goes on
abbrev stage_then : Next → StageOfCall
stage_then n = stage_of (point_after n)

kept-all : (stage : StageOfCall) → IsKept stage stage
kept-all (freeing place need) = refl
kept-all (putting place need shelf) = refl
kept-all (writing place i value) = refl
kept-all (reading place i) = refl
kept-all stage = tt

-- a step at any point keeps the stage so; in a superblock, each point by itself: the check goes through them where one is named
block-keeps : (p : BlockPoint) (o : Continuation) (x : Found) → IsKept (stage_then (next_of (Block p o) x)) (stage_of (Block p o))
unfolding next_of
block-keeps (block.TakeCredit s d credits) o x = grind (arith)
block-keeps p o x = grind (arith)

stack-keeps : (p : StackPoint) (o : Continuation) (x : Found) → IsKept (stage_then (next_of (Stack p o) x)) (stage_of (Stack p o))
unfolding next_of
stack-keeps p o x = grind (arith)

desc-keeps : (p : DescPoint) (o : Continuation) (x : Found) → IsKept (stage_then (next_of (Desc p o) x)) (stage_of (Desc p o))
unfolding next_of
desc-keeps p o x = grind (arith)

partial-keeps : (p : PartialPoint) (o : Continuation) (x : Found) → IsKept (stage_then (next_of (Partial p o) x)) (stage_of (Partial p o))
unfolding next_of
partial-keeps p o x = grind (arith)

large-keeps : (p : LargePoint) (o : Continuation) (x : Found) → IsKept (stage_then (next_of (Large p o) x)) (stage_of (Large p o))
unfolding next_of
large-keeps p o x = grind (arith)

point-keeps : (p : Point) (x : Found) → IsKept (stage_then (next_of p x)) (stage_of p)
unfolding next_of
point-keeps Idle x = tt
point-keeps (Block p o) x = block-keeps p o x
point-keeps (Stack p o) x = stack-keeps p o x
point-keeps (Desc p o) x = desc-keeps p o x
point-keeps (Partial p o) x = partial-keeps p o x
point-keeps (Large p o) x = large-keeps p o x

-- so do the retired list and the turn limit
resumed-keeps :
    (e : ErrandFields) (s : SeatFields) (o : Continuation) (before : StageOfCall) → IsKept (stage_then (after_turn e (resumed s o))) before
resumed-keeps e s o before = grind (arith)

scan-keeps : (s : SeatFields) (o : Continuation) (before : StageOfCall) → IsKept (continuation_stage true s o) before
scan-keeps s o before = grind (arith)

course-keeps :
    (e : ErrandFields) (n : Next) → IsKept (stage_then n) (stage_of e.point)
    → IsKept (stage_then (after_turn e (after_list e n))) (stage_of e.point)
course-keeps e (next.At p) h = h
course-keeps e (next.End r) h = tt
course-keeps e (next.Turn s words) h = grind (arith)
course-keeps e (next.Retire s d o) h =
    elim (cases_Bool (is_full e)) [
      | inl full ↦ rw full (scan-keeps s o (stage_of e.point))
      | inr room ↦ rw room (resumed-keeps e s o (stage_of e.point))
    ]
course-keeps e (next.Pick s held o) h =
    picks (first_unheld held e.retired)
  where
    picks : (d : Option ℕ) → IsKept (stage_then (after_turn e (picked e s o d))) (stage_of e.point)
    picks None = kept-all (stage_of e.point)
    picks (Some d) = scan-keeps s o (stage_of e.point)
course-keeps e (next.Unlist s d o) h = resumed-keeps e s o (stage_of e.point)

pub settles-kept : (e : ErrandFields) (x : Found) → IsKept (stage_of (settle_of e x).point) (stage_of e.point)
unfolding settle_of course_of
settles-kept e x = course-keeps e (next_of e.point x) (point-keeps e.point x)
