use Rattle.sound_state.proofs.RunLemmas.{runs-sound}
use Rattle.sound_state.proofs.laws.runs_keep_sound.Goals as goal

pub returns : goal.returns
returns c = runs-sound
