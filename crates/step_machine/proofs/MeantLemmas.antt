-- What a step of the machine answers is so.
use Rattle.std.proofs.Common.{ℕ, ◌<◌, sym, ◌∙◌}
use Rattle.errand_steps.specs.declared.reply.Progress.{Progress}
use Rattle.sound_state.proofs.CountedLemmas.{without-counts}
use Rattle.sound_state.proofs.answers.StepAnswers.{answers-meant}
use Rattle.step_machine.specs.Cores.{CoreFields, IsCore, state_of}
use Rattle.step_machine.proofs.CoreLemmas.{core-sound}
use Rattle.step_machine.specs.Steps.{AnswersSo, IsStepped}

pub step-meant :
    (c : CoreFields) (caller : ℕ) (answer : Progress) (after : CoreFields) → IsCore c → caller < c.geometry.callers
    → IsStepped c caller answer after → AnswersSo c caller answer after
step-meant c caller answer after core has stepped =
    λ reply is.
    answers-meant c.geometry (state_of c) caller reply (state_of after) (without-counts c.geometry (state_of c) (core-sound c core)) has
    stepped.step (sym stepped.answers ∙ is)
