use Rattle.sound_state.proofs.CountedLemmas.{steps-counted}
use Rattle.sound_state.proofs.laws.steps_keep_sound.Goals as goal

pub returns : goal.returns
returns c = steps-counted
