use Rattle.sound_state.proofs.CountedLemmas.{without-counts}
use Rattle.sound_laws.proofs.bounds_lemmas.LeftSteps.{steps-go_on}
use Rattle.sound_laws.proofs.bounds.calls_end.steps_go_on.Goals as goal

pub returns : goal.returns
returns c = λ g s caller after sound has step. steps-go_on g s caller after (without-counts g s sound) has step
