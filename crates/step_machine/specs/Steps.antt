-- The steps of the machine.
use Rattle.std.specs.Prelude.{ℕ, zero, suc, ◌≡◌, ◌≢◌, ◌<◌, List, length, take, replicate, slice_set}
use Rattle.word_table.specs.Actions.{after_action}
use Rattle.word_table.specs.Table.{Exists, word_index}
use Rattle.errand_steps.specs.declared.reply.Progress.{Progress}
use Rattle.errand_steps.specs.declared.reply.Progress.TheVariants as progress
use Rattle.errand_steps.specs.declared.reply.Reply.{Reply}
use Rattle.errand_steps.specs.Errands.{one_more, settle_of, answer_of}
use Rattle.errand_steps.specs.Steps.{State, Step, Run, with_event, action_at, name_at, word_at, found_at, event_at}
use Rattle.sound_state.specs.Answers.{IsMeant}
use Rattle.step_machine.specs.declared.machine.NextStep.{NextStep}
use Rattle.step_machine.specs.Cores.{CoreFields, errand_at, state_of}

-- the machine after a step of a caller, made on the machine's lists
unfoldable pub stepped : CoreFields → ℕ → CoreFields
stepped c caller =
    let s = state_of c in
    record {
      geometry = c.geometry;
      words = slice_set c.words (word_index c.geometry (name_at s caller)) (after_action (action_at s caller) (word_at s caller));
      errands = slice_set c.errands caller (settle_of (s.errand caller) (found_at s caller));
      events = with_event c.events (event_at s caller);
      steps = one_more c.steps;
    }

-- a machine has made a step, and answers what it came to
pub record IsStepped (c : CoreFields) (caller : ℕ) (answer : Progress) (after : CoreFields) : Type 0 where
  pub step : Step (state_of c) caller (state_of after)
  pub exact : after ≡ stepped c caller
  pub answers : answer ≡ answer_of (errand_at c.errands caller) (found_at (state_of c) caller)
  pub some : answer ≢ progress.Idle

-- the reply of a step that ends its caller's call is so
abbrev pub AnswersSo : CoreFields → ℕ → Progress → CoreFields → Type 0
AnswersSo c caller answer after =
    (reply : Reply) → answer ≡ progress.Done reply → IsMeant c.geometry (state_of c) caller reply (state_of after)

-- what a caller's next step will do
pub record IsNext (c : CoreFields) (caller : ℕ) (n : NextStep) : Type 0 where
  pub there : Exists c.geometry (name_at (state_of c) caller)
  pub action : n.action ≡ action_at (state_of c) caller
  pub index : n.index ≡ word_index c.geometry (name_at (state_of c) caller)
  pub word : n.word ≡ after_action (action_at (state_of c) caller) (word_at (state_of c) caller)
  pub found : n.found ≡ found_at (state_of c) caller
  pub event : n.event ≡ event_at (state_of c) caller

-- a count that has risen so many times; it stands still at its end
abbrev pub counted : ℕ → ℕ → ℕ
counted before zero = before
counted before (suc times) = one_more (counted before times)

-- slots for a beginning of these callers, but not of all of them, which make so many steps
abbrev pub RunsPart : State → List ℕ → ℕ → State → Type 0
RunsPart s callers n s' = (slots : ℕ) × (slots < length callers) × Run s (take slots callers) n s'

-- so many steps of one caller, and none of any other
abbrev pub RunsAlone : CoreFields → ℕ → ℕ → CoreFields → Type 0
RunsAlone c caller n c' = Run (state_of c) (replicate n caller) n (state_of c') × (c'.steps ≡ counted c.steps n)
