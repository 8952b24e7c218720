use Rattle.sound_state.proofs.shared.ClearedLemmas.{cleared-together, cleared-each, cleared-far}
use Rattle.sound_state.proofs.laws.consequences.cleared_counts_stay_below.Goals as goal

pub returns : goal.returns
returns c = record { together = cleared-together; each = cleared-each; below = cleared-far }
