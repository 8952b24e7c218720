-- The steps of a call, each as its pass saw it.
use Rattle.std.specs.Prelude.{ℕ, zero, suc, List, [], ◌∷◌, ◌++◌}
use Rattle.pool_model.specs.declared.event.Event.{Event}
use Rattle.errand_steps.specs.declared.reply.Progress.{Progress}
use Rattle.errand_steps.specs.declared.reply.Progress.TheVariants.{Done}
use Rattle.errand_steps.specs.declared.reply.Reply.{Reply}
use Rattle.errand_steps.specs.Calls.{Call, begun_by}
use Rattle.errand_steps.specs.Errands.{ErrandFields}
use Rattle.step_machine.specs.Moments.{IsMoment}
use Rattle.live_heap.specs.declared.pass.Pass.{Pass}
use Rattle.live_heap.specs.Calls.{HasCalled, StepsOn}
use Rattle.live_heap.specs.Passes.{seen}

-- a step that a pass has made: the errand and the events seen before it, those behind it, what it answered, and its moment
pub record SeenStep : Type 0 where
  pub before : ErrandFields
  pub after : ErrandFields
  pub seen_before : List Event
  pub seen_after : List Event
  pub answer : Progress
  pub moment : IsMoment before after seen_before seen_after answer

-- so many steps after each of which the call goes on, in their order
abbrev pub steps_on : (e : ErrandFields) (before : List Event) (steps : ℕ) (f : ErrandFields) (after : List Event) → StepsOn e before steps f after → List SeenStep
steps_on e before zero f after on = []
steps_on e before (suc steps) f after (last, sight, answer, on, moment, busy) =
    steps_on e before steps last sight on
    ++ record { before = last; after = f; seen_before = sight; seen_after = after; answer = answer; moment = moment } ∷ []

-- all steps of a call that has ended, from the first to the last
abbrev pub steps_of : (first : Pass) (call : Call) (steps : ℕ) (reply : Reply) (q : Pass) → HasCalled first call steps reply q → List SeenStep
steps_of first call steps reply q called =
    steps_on (begun_by first.errand call) (seen first) steps called.last called.sight called.on
    ++ record {
      before = called.last;
      after = q.errand;
      seen_before = called.sight;
      seen_after = seen q;
      answer = Done reply;
      moment = called.moment;
    } ∷ []
