use Rattle.sound_state.proofs.shared.BoundLemmas.{bound-chained, bound-adds_up}
use Rattle.sound_state.proofs.laws.consequences.blocks_add_up.Goals as goal

pub returns : goal.returns
returns c = record { all = bound-adds_up; each = bound-chained }
