-- A caller by its calls: where it stands between two of its steps, whoever made steps in the meantime.
use Rattle.std.specs.Prelude.{ℕ, zero, suc, ◌≡◌, ◌<◌, ◌≤◌, List, []}
use Rattle.heap_geometry.specs.declared.geometry.Geometry.{Geometry}
use Rattle.heap_geometry.specs.declared.limits.TheConstants.{LARGE_MOST, SHELVES}
use Rattle.heap_geometry.specs.Need.{usable_words}
use Rattle.pool_model.specs.declared.event.Event.{Event}
use Rattle.errand_steps.specs.declared.reply.Begun.TheVariants as begun
use Rattle.errand_steps.specs.declared.reply.Progress.{Progress}
use Rattle.errand_steps.specs.declared.reply.Progress.TheVariants.{Done}
use Rattle.errand_steps.specs.declared.reply.Reply.{Reply}
use Rattle.errand_steps.specs.declared.reply.Reply.TheVariants as reply
use Rattle.errand_steps.specs.Begins.{IsBusy, IsIdle, alloc_answer}
use Rattle.errand_steps.specs.Calls.{Call, alloc, free, write, read, put, take, begun_by}
use Rattle.errand_steps.specs.Errands.{ErrandFields, open_errand}
use Rattle.step_machine.specs.Cores.{OwnsAfter}
use Rattle.step_machine.specs.Moments.{IsMoment, IsServed}

-- a caller behind one of its steps: its errand, and the events that it has seen with that step
pub record Caller : Type 0 where
  pub errand : ErrandFields
  pub seen : List Event

-- a caller that has made no step and seen nothing
abbrev pub new_caller : ℕ → Geometry → Caller
new_caller caller g = record { errand = open_errand caller g; seen = [] }

-- where it stands once it has begun this call
abbrev pub begun_at : Caller → Call → Caller
begun_at c call = record { errand = begun_by c.errand call; seen = c.seen }

-- so many steps led from one to the other, and the call went on after each
abbrev pub StepsOn : Caller → ℕ → Caller → Type 0
StepsOn c zero d = d ≡ c
StepsOn c (suc steps) d =
    (last : Caller) × (answer : Progress) × StepsOn c steps last × IsMoment last.errand d.errand last.seen d.seen answer × IsBusy d.errand

-- a call on a block is one on a block that the caller owns after these events
abbrev pub OwnsFor : List Event → ℕ → Call → Type 0
OwnsFor events caller (alloc words) = Unit {0}
OwnsFor events caller (free place need) = OwnsAfter events caller place need
OwnsFor events caller (write place need i value) = OwnsAfter events caller place need
OwnsFor events caller (read place need i) = OwnsAfter events caller place need
OwnsFor events caller (put place need shelf) = OwnsAfter events caller place need
OwnsFor events caller (take shelf) = Unit {0}

-- the number of words, the word or the shelf of a call is in its range
abbrev pub FitsCall : Call → Type 0
FitsCall (alloc words) = words ≤ LARGE_MOST
FitsCall (free place need) = Unit {0}
FitsCall (write place need i value) = i < usable_words need
FitsCall (read place need i) = i < usable_words need
FitsCall (put place need shelf) = shelf < SHELVES
FitsCall (take shelf) = shelf < SHELVES

-- since it stood as c, a caller has begun this call and made steps of it, and it is in the call still
pub record IsIn (c : Caller) (call : Call) (d : Caller) : Type 0 where
  pub steps : ℕ
  pub on : StepsOn (begun_at c call) steps d
  pub busy : IsBusy d.errand

-- one step more has ended the call with this answer
pub record EndsCall (c : Caller) (call : Call) (answer : Reply) (d : Caller) : Type 0 where
  pub last : Caller
  pub in_call : IsIn c call last
  pub moment : IsMoment last.errand d.errand last.seen d.seen (Done answer)

-- a whole call: it began, made its steps and ended; or it is an allocation that found no turn left before it began
pub data MadeBy (c : Caller) (call : Call) (answer : Reply) (d : Caller) : Type 0 where
  by_steps : EndsCall c call answer d → MadeBy c call answer d
  at_once : (words : ℕ) → call ≡ alloc words → answer ≡ reply.Spent → alloc_answer c.errand words ≡ begun.Spent → d ≡ c → MadeBy c call answer d

-- a caller of this heap that is in no call
pub record IsAtRest (g : Geometry) (c : Caller) : Type 0 where
  pub served : IsServed g c.errand.caller c.errand c.seen
  pub idle : IsIdle c.errand

-- a whole call of a caller of this heap that is in none, on a block of its own where it is on one; it leaves the caller in no call
pub record IsCall (g : Geometry) (c : Caller) (call : Call) (answer : Reply) (d : Caller) : Type 0 where
  pub rested : IsAtRest g c
  pub made : MadeBy c call answer d
  pub owned : OwnsFor c.seen c.errand.caller call
  pub rests : IsAtRest g d
