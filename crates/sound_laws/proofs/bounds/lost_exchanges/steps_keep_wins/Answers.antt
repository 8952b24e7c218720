use Rattle.sound_state.proofs.CountedLemmas.{without-counts}
use Rattle.sound_laws.proofs.bounds_lemmas.WonSteps.{steps-won}
use Rattle.sound_laws.proofs.bounds.lost_exchanges.steps_keep_wins.Goals as goal

pub returns : goal.returns
returns c = λ g s w caller after sound won has step. steps-won g s w caller after (without-counts g s sound) won has step
