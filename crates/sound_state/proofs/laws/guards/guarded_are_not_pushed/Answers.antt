use Rattle.sound_state.proofs.guards.GuardRuns.{guards-give}
use Rattle.sound_state.proofs.laws.guards.guarded_are_not_pushed.Goals as goal

pub returns : goal.returns
returns c = guards-give
