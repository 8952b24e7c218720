use Rattle.sound_state.proofs.beginnings.InstalledLemmas.{open_installed-sound}
use Rattle.sound_state.proofs.laws.installed_is_sound.Goals as goal

pub returns : goal.returns
returns c = open_installed-sound
