use Rattle.sound_state.proofs.ReachLemmas.{reached-sound}
use Rattle.sound_state.proofs.beginnings.OpeningLemmas.{opening-sound}
use Rattle.sound_state.proofs.beginnings.InstalledLemmas.{open_installed-sound}
use Rattle.sound_state.proofs.laws.reached_states_are_sound.Goals as goal

pub returns-clause-opening : goal.returns-clause-opening
returns-clause-opening c =
    λ g s moves after checked first reached. reached-sound g s moves after (opening-sound g s checked first) reached

pub returns-clause-installed : goal.returns-clause-installed
returns-clause-installed c =
    λ g class s moves after checked has first reached. reached-sound g s moves after (open_installed-sound g class s checked has first) reached
