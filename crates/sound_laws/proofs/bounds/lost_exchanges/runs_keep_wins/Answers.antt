use Rattle.sound_laws.proofs.bounds_lemmas.MadeLemmas.{made-won}
use Rattle.sound_laws.proofs.bounds.lost_exchanges.runs_keep_wins.Goals as goal

pub returns : goal.returns
returns c = made-won
