use Rattle.sound_laws.proofs.bounds_lemmas.BegunWins.{begins-won}
use Rattle.sound_laws.proofs.bounds.lost_exchanges.begun_calls_keep_wins.Goals as goal

pub returns : goal.returns
returns c = begins-won
