use Rattle.sound_state.proofs.guards.AvailSteps.{noted-below}
use Rattle.sound_state.proofs.laws.guards.what_lies_below_is_noted.Goals as goal

pub returns : goal.returns
returns c = noted-below
