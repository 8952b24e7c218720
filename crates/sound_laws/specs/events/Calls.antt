-- A caller's events since it began a call.
use Rattle.std.specs.Prelude.{ℕ, ◌≡◌, List, ◌++◌}
use Rattle.pool_model.specs.declared.event.Event.{Event}
use Rattle.pool_model.specs.Histories.{own}
use Rattle.errand_steps.specs.declared.reply.Reply.{Reply}
use Rattle.errand_steps.specs.Calls.{Call}
use Rattle.errand_steps.specs.Steps.{State}
use Rattle.sound_laws.specs.events.Ends.{HasEnded}
use Rattle.sound_laws.specs.events.UnderWay.{IsUnderWay}

-- a caller whose own events were these when it began this call is in it: what it added since are the call's events so far
pub record IsInCall (caller : ℕ) (call : Call) (before : List Event) (s : State) : Type 0 where
  pub added : List Event
  pub events : own caller s.history ≡ before ++ added
  pub under_way : IsUnderWay caller call (s.errand caller).point added

-- a caller's call has ended with this answer: the events of its own that it added since the call began are the call's events
pub record HasEndedCall (caller : ℕ) (call : Call) (before : List Event) (reply : Reply) (s : State) : Type 0 where
  pub added : List Event
  pub events : own caller s.history ≡ before ++ added
  pub ended : HasEnded caller call reply added
