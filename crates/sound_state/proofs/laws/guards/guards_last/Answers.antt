use Rattle.sound_state.proofs.guards.GuardRuns.{guards-reached, guarded-reached, unavailable-reached}
use Rattle.sound_state.proofs.laws.guards.guards_last.Goals as goal

pub returns : goal.returns
returns c = record { guarded = guards-reached; kept = guarded-reached; unavailable = unavailable-reached }
