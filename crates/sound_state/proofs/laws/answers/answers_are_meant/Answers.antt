use Rattle.sound_state.proofs.answers.StepAnswers.{answers-meant}
use Rattle.sound_state.proofs.laws.answers.answers_are_meant.Goals as goal

pub returns : goal.returns
returns c = λ g s caller reply after sound has step is. answers-meant g s caller reply after sound has step is
