-- A caller's errand, and the errand after each step.
use Rattle.std.specs.Prelude.{ℕ, ◌≡◌, Bool, true, false, ◌<◌, ◌≤◌, ◌+◌, ◌==◌, ◌&&◌, nat_le, not, min, if◌then◌else◌, Option, Some, None, List, [], ◌∷◌, ◌++◌, length, replicate, All, Contains, IfSome}
use Rattle.heap_geometry.specs.declared.geometry.Geometry.{Geometry}
use Rattle.heap_geometry.specs.Geometry.{IsChecked}
use Rattle.packed_words.specs.Anchor.{anchor_of}
use Rattle.word_table.specs.declared.action.Action.{Action}
use Rattle.word_table.specs.declared.action.Action.TheVariants.{Load, Store, Cas, Swap, And}
use Rattle.word_table.specs.declared.action.Found.{Found}
use Rattle.word_table.specs.Counts.{descriptor_count}
use Rattle.word_table.specs.Seats.{SeatFields}
use Rattle.step_parts.specs.declared.superblock.point.BlockPoint.TheVariants as block
use Rattle.step_parts.specs.declared.hazard.limits.TheConstants.{HELD_MOST, RETIRED_MOST}
use Rattle.step_parts.specs.declared.hazard.point.DescPoint.TheVariants as desc
use Rattle.step_parts.specs.hazard.Retired.{first_unheld, without}
use Rattle.step_parts.specs.declared.partial.point.PartialPoint.TheVariants as partial
use Rattle.step_parts.specs.partial.Grants.{is_empty}
use Rattle.step_parts.specs.declared.large.point.LargePoint.TheVariants as large
use Rattle.errand_steps.specs.declared.continuation.Continuation.{Continuation}
use Rattle.errand_steps.specs.declared.continuation.Continuation.TheVariants as continuation
use Rattle.errand_steps.specs.declared.point.Point.{Point}
use Rattle.errand_steps.specs.declared.point.Point.TheVariants.{Idle, Block, Desc, Partial, Large}
use Rattle.errand_steps.specs.declared.reply.Progress.{Progress}
use Rattle.errand_steps.specs.declared.reply.Progress.TheVariants as progress
use Rattle.errand_steps.specs.declared.reply.Reply.{Reply}
use Rattle.errand_steps.specs.declared.reply.Reply.TheVariants as reply
use Rattle.errand_steps.specs.declared.next.Next.{Next}
use Rattle.errand_steps.specs.declared.next.Next.TheVariants.{At, End, Turn, Retire, Pick, Unlist}
use Rattle.errand_steps.specs.Fits.{FitsPoint, spare_of, pushed_by}
use Rattle.errand_steps.specs.Nexts.{next_of, resumed}
use Rattle.errand_steps.specs.Points.{plan_point_of}

-- a caller's state between two steps
pub record ErrandFields : Type 0 where
  pub caller : ℕ
  pub geometry : Geometry
  pub point : Point
  pub retired : List ℕ
  pub turns : ℕ
  pub won : ℕ
  pub lost : ℕ
  pub cleared : ℕ

-- everything that an errand remembers exists in its heap; its list has no more entries than the heap has callers, but for one during a scan and the push after it
pub record IsErrand (e : ErrandFields) : Type 0 where
  pub geometry : IsChecked e.geometry
  pub caller : e.caller < e.geometry.callers
  pub point : FitsPoint e.geometry e.caller e.point
  pub listed : All (λ d. d < descriptor_count e.geometry) e.retired
  pub room : length e.retired ≤ e.geometry.callers + spare_of e.point
  pub pushed : IfSome (pushed_by e.point) (λ d. Contains e.retired d)
  pub turns : e.turns ≤ e.geometry.turn_limit

-- the errand of a caller before its first call
abbrev pub open_errand : ℕ → Geometry → ErrandFields
open_errand caller g =
    record { caller = caller; geometry = g; point = Idle; retired = []; turns = 0; won = 0; lost = 0; cleared = 0 }

-- the action of an errand
abbrev pub plan_of : ErrandFields → Action
plan_of e = plan_point_of e.point

-- no hazard word is read yet
abbrev pub no_words : List ℕ
no_words = replicate HELD_MOST 0

-- the point at which a scan of the hazard words begins
abbrev pub scan_begins : SeatFields → Continuation → Point
scan_begins s o = Desc (desc.ReadHazard s no_words 0) o

-- the caller has no turn left
abbrev pub is_spent : ErrandFields → Bool
is_spent e = e.turns == e.geometry.turn_limit

-- the retired list with one more entry has more than the heap has callers, so that the hazard words are read
abbrev pub is_full : ErrandFields → Bool
is_full e = nat_le e.geometry.callers (length e.retired)

-- the picked descriptor is pushed; where there is none the point stays
abbrev pub picked : ErrandFields → SeatFields → Continuation → Option ℕ → Next
picked e s o None = At e.point
picked e s o (Some d) = At (Desc (desc.LoadHeadToPush s d) o)

-- the retired list's part in what follows
abbrev pub after_list : ErrandFields → Next → Next
after_list e (At p) = At p
after_list e (End r) = End r
after_list e (Turn s need) = Turn s need
after_list e (Retire s d o) = if is_full e then At (scan_begins s o) else resumed s o
after_list e (Pick s held o) = picked e s o (first_unheld held e.retired)
after_list e (Unlist s d o) = resumed s o

-- a turn begins where the caller has one left; where it has none the call ends
abbrev pub turned : ErrandFields → SeatFields → ℕ → Next
turned e s need = if is_spent e then End reply.Spent else At (Block (block.LoadActive s) (continuation.Alloc need))

-- the turn limit's part in what follows
abbrev pub after_turn : ErrandFields → Next → Next
after_turn e (At p) = At p
after_turn e (End r) = End r
after_turn e (Turn s need) = turned e s need
after_turn e (Retire s d o) = Retire s d o
after_turn e (Pick s held o) = Pick s held o
after_turn e (Unlist s d o) = Unlist s d o

-- what follows a step of an errand: a point or the end of the call
unfoldable pub course_of : ErrandFields → Found → Next
course_of e x = after_turn e (after_list e (next_of e.point x))

-- the point after what follows: a caller whose call has ended is idle
abbrev pub point_after : Next → Point
point_after (At p) = p
point_after n = Idle

-- the retired list after a step, by what follows
abbrev pub list_after : List ℕ → Next → List ℕ
list_after ds (Retire s d o) = ds ++ d ∷ []
list_after ds (Unlist s d o) = without d ds
list_after ds n = ds

-- the retired list has room for what a step adds, and has what it takes off
abbrev pub IsListable : List ℕ → Next → Type 0
IsListable ds (Retire s d o) = length ds < RETIRED_MOST
IsListable ds (Unlist s d o) = Contains ds d
IsListable ds n = Unit {0}

-- whether a turn begins in what follows
abbrev pub begins_turn : ErrandFields → Next → Bool
begins_turn e (Turn s need) = not (is_spent e)
begins_turn e n = false

-- a count of 64 bits that rises; it stands still at its end
abbrev pub one_more : ℕ → ℕ
one_more n = min (n + 1) 18446744073709551615

abbrev pub raised : Bool → ℕ → ℕ
raised rises n = if rises then one_more n else n

-- what follows a step, by the retired list and the turn limit
abbrev pub led_to : ErrandFields → Next → Next
led_to e n = after_turn e (after_list e n)

-- the errand after what follows, with the counts that it had
abbrev pub led_by : ErrandFields → Next → ErrandFields
led_by e n =
    record e {
      point = point_after (led_to e n);
      retired = list_after e.retired n;
      turns = raised (begins_turn e (after_list e n)) e.turns;
    }

-- the reply with which what follows ends the call, if it does
abbrev pub ended_by : Next → Option Reply
ended_by (End r) = Some r
ended_by n = None

-- an exchange that is won counts where its two numbers differ; so do a swap and an and
abbrev pub counts_won : Action → Found → Bool
counts_won (Load name) x = false
counts_won (Store name new) x = false
counts_won (Cas name expected new) x = x.won && not (expected == new)
counts_won (Swap name new) x = true
counts_won (And name mask) x = true

-- an exchange that isn't won
abbrev pub is_lost_exchange : Action → Found → Bool
is_lost_exchange (Cas name expected new) x = not x.won
is_lost_exchange action x = false

-- lost is an exchange that isn't won, and a descriptor that isn't the top one any more; a put that finds a block isn't
abbrev pub counts_lost : Point → Found → Bool
counts_lost (Desc (desc.ReloadDescHead s d) o) x = not (x.value == d + 1)
counts_lost (Large (large.PutBlock shelf place need) o) x = false
counts_lost p x = is_lost_exchange (plan_point_of p) x

-- an allocation took an empty superblock for a partial one
abbrev pub counts_cleared : Point → Found → Bool
counts_cleared (Partial (partial.LoadGrantAnchor at) o) x = is_empty (anchor_of x.value).state
counts_cleared p x = false

-- the step ends the call with this reply, and raises no count
pub record EndsUncounted (p : Point) (x : Found) (r : Reply) : Type 0 where
  pub ends : next_of p x ≡ End r
  pub won : counts_won (plan_point_of p) x ≡ false
  pub lost : counts_lost p x ≡ false
  pub cleared : counts_cleared p x ≡ false

-- the errand after the step in which its action found something
unfoldable pub settle_of : ErrandFields → Found → ErrandFields
settle_of e x =
    let next = next_of e.point x in
    record {
      caller = e.caller;
      geometry = e.geometry;
      point = point_after (course_of e x);
      retired = list_after e.retired next;
      turns = raised (begins_turn e (after_list e next)) e.turns;
      won = raised (counts_won (plan_of e) x) e.won;
      lost = raised (counts_lost e.point x) e.lost;
      cleared = raised (counts_cleared e.point x) e.cleared;
    }

-- what a step that goes on answers
abbrev pub going_on : Bool → Bool → Progress
going_on lost cleared = if lost then progress.Lost else (if cleared then progress.Cleared else progress.More)

-- what a step answers
abbrev pub told : Next → Bool → Bool → Progress
told (End r) lost cleared = progress.Done r
told n lost cleared = going_on lost cleared

unfoldable pub answer_of : ErrandFields → Found → Progress
answer_of e x = told (course_of e x) (counts_lost e.point x) (counts_cleared e.point x)
