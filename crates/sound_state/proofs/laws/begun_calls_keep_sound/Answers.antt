use Rattle.sound_state.proofs.ReachLemmas.{begins-counted}
use Rattle.sound_state.proofs.laws.begun_calls_keep_sound.Goals as goal

pub returns : goal.returns
returns c = begins-counted
