-- Tags, turns and what bounds them.
use Rattle.std.specs.Prelude.{ℕ, Bool, false, ◌<◌, ◌≤◌, ◌+◌, ◌*◌, ◌==◌, ◌&&◌, if◌then◌else◌, nat_le}
use Rattle.std.specs.List.{count_by}
use Rattle.heap_geometry.specs.declared.geometry.Geometry.{Geometry}
use Rattle.heap_geometry.specs.declared.limits.TheConstants.{CLASSES, SMALL_MOST}
use Rattle.packed_words.specs.Head.{head_of}
use Rattle.word_table.specs.declared.name.WordName.TheVariants as name
use Rattle.word_table.specs.Counts.{descriptor_count}
use Rattle.step_parts.specs.partial.Grants.{is_empty}
use Rattle.pool_model.specs.declared.event.Event.{Event}
use Rattle.pool_model.specs.declared.event.Event.TheVariants.{Alloc, Refuse, Free}
use Rattle.errand_steps.specs.declared.continuation.Continuation.{Continuation}
use Rattle.errand_steps.specs.declared.continuation.Continuation.TheVariants as continuation
use Rattle.errand_steps.specs.declared.point.Point.{Point}
use Rattle.errand_steps.specs.declared.point.Point.TheVariants as point
use Rattle.errand_steps.specs.Errands.{ErrandFields}
use Rattle.errand_steps.specs.Steps.{State}
use Rattle.sound_state.specs.Lists.{Lists}
use Rattle.sound_state.specs.TurnStages.{turn_stage_of, in_turn, lacks_frame, lacks_partial, lacks_answer, is_unneeded}
use Rattle.sound_state.specs.Sums.{sum_below, callers_sum}
use Rattle.sound_state.specs.Superblocks.{anchor_for, away_of}
use Rattle.heap_geometry.specs.Place.{frame_of}
use Rattle.errand_steps.specs.tables.Partials.{partial_pops}

-- whether the event gives a small block to this caller, refuses it one, gives one to anybody, or frees one
abbrev pub gives_small : ℕ → Event → Bool
gives_small caller (Alloc by words place) = (by == caller) && nat_le words SMALL_MOST
gives_small caller e = false

abbrev pub refuses_small : ℕ → Event → Bool
refuses_small caller (Refuse by words) = (by == caller) && nat_le words SMALL_MOST
refuses_small caller e = false

abbrev pub is_small_alloc : Event → Bool
is_small_alloc (Alloc by words place) = nat_le words SMALL_MOST
is_small_alloc e = false

abbrev pub is_small_free : Geometry → Event → Bool
is_small_free g (Free by place) = nat_le (frame_of place + 1) g.frames
is_small_free g e = false

-- 1 where the condition is so, else 0
abbrev pub one_if : Bool → ℕ
one_if b = if b then 1 else 0

-- 1 where a caller is in a turn that has given no block yet; has popped no frame in it; has no partial superblock in it
abbrev pub turn_open : ErrandFields → ℕ
turn_open e = one_if (in_turn e.point)

abbrev pub turn_unframed : ErrandFields → ℕ
turn_unframed e = one_if (lacks_frame (turn_stage_of e.point))

abbrev pub turn_unlisted : ErrandFields → ℕ
turn_unlisted e = one_if (lacks_partial (turn_stage_of e.point))

-- how many pops of a class's list a free that made its superblock EMPTY may still make
abbrev pub continuation_pops : Continuation → ℕ
continuation_pops (continuation.Remove d heap) = 2
continuation_pops continuation.Clear = 2
continuation_pops (continuation.ClearSecond first) = 1
continuation_pops o = 0

abbrev pub pops_left : Point → ℕ
pops_left (point.Block p o) = 0
pops_left (point.Stack p o) = continuation_pops o
pops_left (point.Desc p o) = continuation_pops o
pops_left (point.Partial p o) = partial_pops p o
pops_left p = 0

abbrev pub errand_pops : ErrandFields → ℕ
errand_pops e = pops_left e.point

-- a caller's turns, and its cleared count
abbrev pub turns_of : ErrandFields → ℕ
turns_of e = e.turns

abbrev pub cleared_of : ErrandFields → ℕ
cleared_of e = e.cleared

-- 1 where d is EMPTY, and neither available, retired nor on its way
abbrev pub emptied_out : Geometry → State → Lists → ℕ → ℕ
emptied_out g s l d = one_if ((away_of g s l d == 0) && is_empty (anchor_for s d).state)

-- 1 where a caller's new superblock wasn't needed, and its next turn hasn't begun yet
abbrev pub errand_discards : ErrandFields → ℕ
errand_discards e = one_if (is_unneeded (turn_stage_of e.point))

-- 1 where a caller is in a turn that has neither given a block nor been refused one
abbrev pub turn_unanswered : ErrandFields → ℕ
turn_unanswered e = one_if (lacks_answer (turn_stage_of e.point))

-- how many turns all callers took; how many EMPTY superblocks they cleared; how many small blocks were freed
abbrev pub all_turns : Geometry → State → ℕ
all_turns g s = callers_sum g turns_of s.errand

abbrev pub all_cleared : Geometry → State → ℕ
all_cleared g s = callers_sum g cleared_of s.errand

abbrev pub small_frees : Geometry → State → ℕ
small_frees g s = count_by (is_small_free g) s.history

-- how many superblocks are EMPTY, their descriptors neither available, retired nor on their way
abbrev pub all_emptied : Geometry → State → Lists → ℕ
all_emptied g s l = sum_below (descriptor_count g) (emptied_out g s l)

-- how many pops of lists may still come: by frees that made a superblock EMPTY, and by the turns that have no partial superblock yet
abbrev pub pops_to_come : Geometry → State → ℕ
pops_to_come g s = callers_sum g errand_pops s.errand + callers_sum g turn_unlisted s.errand

-- the tags stay below what the turns allow, and the turns below what the events and the lost exchanges allow
pub record IsTurned (g : Geometry) (s : State) (l : Lists) : Type 0 where
  pub own_turns :
      (caller : ℕ) → caller < g.callers
      → count_by (gives_small caller) s.history + turn_open (s.errand caller) ≤ (s.errand caller).turns
  pub own_lost :
      (caller : ℕ) → caller < g.callers
      → (s.errand caller).turns + errand_discards (s.errand caller)
      ≤ count_by (gives_small caller) s.history + count_by (refuses_small caller) s.history + (s.errand caller).lost
      + turn_unanswered (s.errand caller)
  pub own_answers :
      (caller : ℕ) → caller < g.callers
      → count_by (gives_small caller) s.history + count_by (refuses_small caller) s.history + turn_unanswered (s.errand caller)
      ≤ (s.errand caller).turns
  pub anchor_tags : (d : ℕ) → d < descriptor_count g → (anchor_for s d).tag ≤ count_by is_small_alloc s.history
  pub frame_tag : (head_of (s.word name.FrameHead)).tag + callers_sum g turn_unframed s.errand ≤ all_turns g s
  pub emptied : all_emptied g s l + all_cleared g s ≤ small_frees g s
  pub list_tags :
      (class : ℕ) → class < CLASSES
      → (head_of (s.word (name.ListHead class))).tag + pops_to_come g s ≤ all_turns g s + 2 * small_frees g s + all_cleared g s
