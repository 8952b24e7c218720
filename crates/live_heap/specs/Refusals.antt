-- Why an allocation is refused.
use Rattle.std.specs.Prelude.{ℕ, ◌≡◌, List, [], ◌∷◌, ◌++◌, Some}
use Rattle.packed_words.specs.Head.{head_of}
use Rattle.word_table.specs.declared.name.WordName.{WordName}
use Rattle.word_table.specs.declared.name.WordName.TheVariants.{FrameHead, ListHead}
use Rattle.word_table.specs.Actions.{name_of}
use Rattle.pool_model.specs.declared.event.Event.{Event}
use Rattle.pool_model.specs.declared.event.Event.TheVariants.{Looked, Refuse}
use Rattle.pool_model.specs.Legal.{IsFreeRun}
use Rattle.pool_model.specs.Pool.{pool_of}
use Rattle.errand_steps.specs.Errands.{plan_of}
use Rattle.errand_steps.specs.Steps.{event_at}
use Rattle.live_heap.specs.declared.pass.Pass.{Pass}
use Rattle.live_heap.specs.Passes.{seen}
use Rattle.live_heap.specs.SeenSteps.{SeenStep}

-- a step of the pass's caller in its heap found the stack of this head empty, and told this event
pub record HasFoundEmpty (first : Pass) (step : SeenStep) (head : WordName) (event : Event) : Type 0 where
  pub caller : step.before.caller ≡ first.errand.caller
  pub heap : step.before.geometry ≡ first.errand.geometry
  pub on : name_of (plan_of step.before) ≡ head
  pub empty : (head_of (step.moment.state.word head)).top ≡ 0
  pub tells : event_at step.moment.state step.before.caller ≡ Some event

-- one of the steps found no partial superblock of the class, and a later one found no frame, at which the allocation was refused
pub record HasFoundNoFrame (first : Pass) (words class : ℕ) (steps : List SeenStep) : Type 0 where
  pub looking : SeenStep
  pub refusing : SeenStep
  pub front : List SeenStep
  pub between : List SeenStep
  pub rest : List SeenStep
  pub among : steps ≡ front ++ looking ∷ (between ++ refusing ∷ rest)
  pub looked : HasFoundEmpty first looking (ListHead class) (Looked first.errand.caller class)
  pub refused : HasFoundEmpty first refusing FrameHead (Refuse first.errand.caller words)

-- the last step of an allocation found no run of so many units, and its event is the refusal
pub record HasFoundNoRun (first : Pass) (words units : ℕ) (q : Pass) : Type 0 where
  pub history : List Event
  pub told : seen q ≡ history ++ Refuse first.errand.caller words ∷ []
  pub none : (place : ℕ) → ¬ IsFreeRun q.errand.geometry (pool_of history) units place
