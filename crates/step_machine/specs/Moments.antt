-- What a caller sees of its own step, whoever else made steps in the meantime.
use Rattle.std.specs.Prelude.{ℕ, ◌≡◌, ◌<◌, ◌≤◌, ◌+◌, List, [], ◌++◌, count_by}
use Rattle.heap_geometry.specs.declared.geometry.Geometry.{Geometry}
use Rattle.heap_geometry.specs.Geometry.{IsChecked}
use Rattle.pool_model.specs.declared.event.Event.{Event}
use Rattle.pool_model.specs.Histories.{own}
use Rattle.pool_model.specs.Legal.{IsLegal}
use Rattle.errand_steps.specs.declared.reply.Progress.{Progress}
use Rattle.errand_steps.specs.Errands.{ErrandFields, answer_of}
use Rattle.errand_steps.specs.Steps.{State, Step, found_at}
use Rattle.sound_state.specs.Sound.{IsSound, IsOwnErrand}
use Rattle.sound_state.specs.Turns.{gives_small, refuses_small, is_small_alloc, errand_discards, turn_unanswered}
use Rattle.step_machine.specs.Cores.{IsReached}

-- a caller's step took its errand from e to f and the events that it sees from these to those: it was one step of a state that moves of the callers had reached, and so of a sound one, in which the errand stood for the caller, and before which others may have made events
pub record IsMoment (e f : ErrandFields) (before after : List Event) (answer : Progress) : Type 0 where
  pub has : e.caller < e.geometry.callers
  pub state : State
  pub next : State
  pub between : List Event
  pub made : ℕ
  pub reached : IsReached e.geometry state made
  pub sound : IsSound e.geometry state
  pub here : state.errand e.caller ≡ e
  pub step : Step state e.caller next
  pub there : next.errand e.caller ≡ f
  pub not_own : own e.caller between ≡ []
  pub seen : state.history ≡ before ++ between
  pub now : next.history ≡ after
  pub answers : answer ≡ answer_of e (found_at state e.caller)

-- more events are seen, none of them this caller's
pub record HasSeenMore (caller : ℕ) (before after : List Event) : Type 0 where
  pub more : List Event
  pub seen : after ≡ before ++ more
  pub not_own : own caller more ≡ []

-- a caller of this heap has this errand, and these events are seen: they are legal. The caller's turns are at least the small blocks that it was given, the small needs that it was refused and the turn that has no answer yet; and at most these and the exchanges that it lost, or one less between a lost install and the next turn, or the end as Spent. And they are at most the small blocks that all callers were given, the small needs that it was refused and that turn
pub record IsServed (g : Geometry) (caller : ℕ) (e : ErrandFields) (events : List Event) : Type 0 where
  pub checked : IsChecked g
  pub has : caller < g.callers
  pub own_errand : IsOwnErrand g caller e
  pub legal : IsLegal g events
  pub answers : count_by (gives_small caller) events + count_by (refuses_small caller) events + turn_unanswered e ≤ e.turns
  pub by_lost :
      e.turns + errand_discards e
      ≤ count_by (gives_small caller) events + count_by (refuses_small caller) events + e.lost + turn_unanswered e
  pub by_given : e.turns ≤ count_by is_small_alloc events + count_by (refuses_small caller) events + turn_unanswered e
