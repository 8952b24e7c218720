use Rattle.sound_state.proofs.shared.StockLemmas.{waiting-has, looking-has}
use Rattle.sound_state.proofs.laws.consequences.a_descriptor_is_always_available.Goals as goal

pub returns : goal.returns
returns c = record { waiting = waiting-has; looking = looking-has }
