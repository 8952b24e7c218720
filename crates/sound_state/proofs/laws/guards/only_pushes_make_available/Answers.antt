use Rattle.sound_state.proofs.guards.AvailSteps.{available-stepped}
use Rattle.sound_state.proofs.laws.guards.only_pushes_make_available.Goals as goal

pub returns : goal.returns
returns c = available-stepped
