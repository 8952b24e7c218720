use Rattle.sound_state.proofs.Common.{opening, installed}
use Rattle.sound_laws.specs.bounds.Wins.{no_wins}
use Rattle.sound_state.proofs.beginnings.OpeningLemmas.{opening-sound}
use Rattle.sound_state.proofs.beginnings.InstalledLemmas.{open_installed-sound}
use Rattle.sound_laws.proofs.bounds_lemmas.FirstWins.{first-won}
use Rattle.sound_laws.proofs.bounds_lemmas.MadeLemmas.{made-won}
use Rattle.sound_laws.proofs.bounds.lost_exchanges.reached_states_have_wins.Goals as goal

pub returns-clause-opening : goal.returns-clause-opening
returns-clause-opening c =
    λ g s moves after w checked first made.
    made-won g s no_wins moves after w (opening-sound g s checked first) (first-won g (opening g) s first) made

pub returns-clause-installed : goal.returns-clause-installed
returns-clause-installed c =
    λ g class s moves after w checked has first made.
    made-won g s no_wins moves after w (open_installed-sound g class s checked has first) (first-won g (installed g class) s first) made
