use Rattle.sound_state.proofs.shared.OverlapLemmas.{live-apart, live-taken, free-unlive}
use Rattle.sound_state.proofs.laws.consequences.live_blocks_never_overlap.Goals as goal

pub returns : goal.returns
returns c = record { apart = live-apart; taken = live-taken; free = free-unlive }
