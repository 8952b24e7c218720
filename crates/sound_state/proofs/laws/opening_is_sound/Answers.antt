use Rattle.sound_state.proofs.beginnings.OpeningLemmas.{opening-sound}
use Rattle.sound_state.proofs.laws.opening_is_sound.Goals as goal

pub returns : goal.returns
returns c = opening-sound
