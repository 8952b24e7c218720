use Rattle.sound_state.proofs.Common.{opening, installed}
use Rattle.sound_laws.proofs.bounds_lemmas.FirstWins.{first-won}
use Rattle.sound_laws.proofs.bounds.lost_exchanges.nothing_is_won_at_first.Goals as goal

pub returns-clause-opening : goal.returns-clause-opening
returns-clause-opening c = λ g s opens. first-won g (opening g) s opens

pub returns-clause-installed : goal.returns-clause-installed
returns-clause-installed c = λ g class s opens. first-won g (installed g class) s opens
