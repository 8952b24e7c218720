-- Steps of several callers, with the words as a function of their names, and runs of them.
use Rattle.std.specs.Prelude.{ℕ, ◌≡◌, ◌≢◌, ◌+◌, ◌⊎◌, List, [], ◌∷◌, ◌++◌, Option, Some, None}
use Rattle.word_table.specs.declared.action.Action.{Action}
use Rattle.word_table.specs.declared.action.Found.{Found}
use Rattle.word_table.specs.declared.name.WordName.{WordName}
use Rattle.word_table.specs.Actions.{name_of, after_action, found_by}
use Rattle.word_table.specs.Words.{Writes}
use Rattle.pool_model.specs.declared.event.Event.{Event}
use Rattle.errand_steps.specs.Begins.{IsIdle, IsBusy}
use Rattle.errand_steps.specs.Errands.{ErrandFields, plan_of, settle_of}
use Rattle.errand_steps.specs.Events.{event_of}

-- the words by their names, the errands by their callers, and the events so far
pub record State : Type 0 where
  pub word : WordName → ℕ
  pub errand : ℕ → ErrandFields
  pub history : List Event

-- the errand of this caller is e now, and that of every other one is what it was
pub record Moves (before : ℕ → ErrandFields) (caller : ℕ) (e : ErrandFields) (after : ℕ → ErrandFields) : Type 0 where
  pub here : after caller ≡ e
  pub elsewhere : (other : ℕ) → other ≢ caller → after other ≡ before other

-- the events with one more, where there is one
abbrev pub with_event : List Event → Option Event → List Event
with_event events None = events
with_event events (Some event) = events ++ event ∷ []

-- the action that a caller makes next, the word that it is on, what stands there, and what the action finds
abbrev pub action_at : State → ℕ → Action
action_at s caller = plan_of (s.errand caller)

abbrev pub name_at : State → ℕ → WordName
name_at s caller = name_of (action_at s caller)

abbrev pub word_at : State → ℕ → ℕ
word_at s caller = s.word (name_at s caller)

abbrev pub found_at : State → ℕ → Found
found_at s caller = found_by (action_at s caller) (word_at s caller)

-- the event of the step that a caller makes next, if it has one
abbrev pub event_at : State → ℕ → Option Event
event_at s caller = event_of caller (s.errand caller).point (found_at s caller)

-- a step of a caller that is in a call: its action changes one word, its errand goes on by what the action found, and the events gain that of the step, where it has one
pub record Step (s : State) (caller : ℕ) (s' : State) : Type 0 where
  pub busy : IsBusy (s.errand caller)
  pub word : Writes s.word (name_at s caller) (after_action (action_at s caller) (word_at s caller)) s'.word
  pub errand : Moves s.errand caller (settle_of (s.errand caller) (found_at s caller)) s'.errand
  pub history : s'.history ≡ with_event s.history (event_at s caller)

-- a slot of a schedule for a caller, which makes so many steps: one where the caller is in a call; else none, and nothing changes
abbrev pub ScheduleSlot : State → ℕ → ℕ → State → Type 0
ScheduleSlot s caller n s' = (IsIdle (s.errand caller) × (n ≡ 0) × (s' ≡ s)) ⊎ (Step s caller s' × (n ≡ 1))

-- slots for these callers, one after the other, which make so many steps
abbrev pub Run : State → List ℕ → ℕ → State → Type 0
Run s [] n s' = (n ≡ 0) × (s' ≡ s)
Run s (caller ∷ rest) n s' =
    (next : State) × (first : ℕ) × (others : ℕ) × ScheduleSlot s caller first next × Run next rest others s' × (n ≡ first + others)

-- two states have the same words, errands and events
pub record IsSame (a b : State) : Type 0 where
  pub word : (name : WordName) → a.word name ≡ b.word name
  pub errand : (caller : ℕ) → a.errand caller ≡ b.errand caller
  pub history : a.history ≡ b.history
