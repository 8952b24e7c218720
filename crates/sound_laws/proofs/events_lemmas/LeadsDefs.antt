-- How a step with its event leads a call from one stage to the next, or to its end.
use Rattle.std.specs.Prelude.{ℕ, true, false, ◌≡◌, List, Option, Some, None}
use Rattle.heap_geometry.specs.declared.need.Need.TheVariants.{Small, Large}
use Rattle.pool_model.specs.declared.event.Event.{Event}
use Rattle.pool_model.specs.declared.event.Event.TheVariants as event
use Rattle.errand_steps.specs.declared.next.Next.{Next}
use Rattle.errand_steps.specs.declared.next.Next.TheVariants as next
use Rattle.errand_steps.specs.declared.reply.Reply.{Reply}
use Rattle.errand_steps.specs.declared.reply.Reply.TheVariants as reply
use Rattle.errand_steps.specs.Calls.{Call}
use Rattle.sound_laws.specs.events.Ends.{HasEnded}
use Rattle.errand_steps.specs.tables.CallStage.{StageOfCall, asking, asking_run, refused, given, freeing, freed, writing, reading, putting, taking, none}
use Rattle.errand_steps.specs.tables.CallStage.{continuation_stage}
use Rattle.sound_laws.specs.events.Stages.{stage_of}
use Rattle.sound_laws.specs.events.UnderWay.{SoFar}

-- a call after a step: at a stage, or ended
pub data Outcome : Type 0 where
  still : StageOfCall → Outcome
  over : Reply → Outcome

abbrev pub outcome_of : Next → Outcome
outcome_of (next.At p) = still (stage_of p)
outcome_of (next.End r) = over r
outcome_of (next.Turn s words) = still (asking words s.class false)
outcome_of (next.Retire s d o) = still (continuation_stage false s o)
outcome_of (next.Pick s held o) = still (continuation_stage false s o)
outcome_of (next.Unlist s d o) = still (continuation_stage false s o)

-- the events of a call at this outcome
abbrev pub SoFarAt : ℕ → Call → Outcome → List Event → Type 0
SoFarAt caller call (still stage) es = SoFar caller call stage es
SoFarAt caller call (over r) es = HasEnded caller call r es

-- the stage leads on by this event, if any, to the outcome
abbrev pub Leads : ℕ → StageOfCall → Option Event → Outcome → Type 0
Leads caller (asking w c looked) None (still (asking w' c' looked')) = (w' ≡ w) × (c' ≡ c) × (looked' ≡ true → looked ≡ true)
Leads caller (asking w c looked) None (over reply.Spent) = Unit {0}
Leads caller (asking w c looked) (Some e) (still (asking w' c' looked')) = (w' ≡ w) × (c' ≡ c) × (e ≡ event.Looked caller c)
Leads caller (asking w c looked) (Some e) (still refused) = (looked ≡ true) × (e ≡ event.Refuse caller w)
Leads caller (asking w c looked) (Some e) (still (given place need)) = (need ≡ Small c) × (e ≡ event.Alloc caller w place)
Leads caller (asking_run w units) None (still (asking_run w' units')) = (w' ≡ w) × (units' ≡ units)
Leads caller (asking_run w units) (Some e) (over reply.Refused) = e ≡ event.Refuse caller w
Leads caller (asking_run w units) (Some e) (still (given place need)) = (need ≡ Large units) × (e ≡ event.Alloc caller w place)
Leads caller refused None (still refused) = Unit {0}
Leads caller refused None (over reply.Refused) = Unit {0}
Leads caller (given p n) None (still (given p' n')) = (p' ≡ p) × (n' ≡ n)
Leads caller (given p n) None (over (reply.Given p' n')) = (p' ≡ p) × (n' ≡ n)
Leads caller (freeing p n) None (still (freeing p' n')) = (p' ≡ p) × (n' ≡ n)
Leads caller (freeing p n) (Some e) (still freed) = e ≡ event.Free caller p
Leads caller (freeing p n) (Some e) (over reply.Freed) = e ≡ event.Free caller p
Leads caller freed None (still freed) = Unit {0}
Leads caller freed None (over reply.Freed) = Unit {0}
Leads caller (writing p i v) (Some e) (over reply.Wrote) = e ≡ event.Write caller p i v
Leads caller (reading p i) None (over (reply.Word v)) = Unit {0}
Leads caller (putting p n k) None (over (reply.Full found)) = Unit {0}
Leads caller (putting p n k) (Some e) (over reply.Put) = e ≡ event.Put caller p k
Leads caller (taking k) None (still (taking k')) = k' ≡ k
Leads caller (taking k) None (over (reply.Missed expected found)) = Unit {0}
Leads caller (taking k) (Some e) (over (reply.Got p n)) = e ≡ event.Take caller k p
Leads caller (taking k) (Some e) (over reply.Empty) = e ≡ event.TakeNone caller k
Leads caller none e outcome = Unit {0}
Leads caller stage e outcome = ⊥
