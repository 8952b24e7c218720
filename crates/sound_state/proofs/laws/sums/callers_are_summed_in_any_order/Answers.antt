use Rattle.sound_state.proofs.shared.TotalLemmas.{all-callers}
use Rattle.sound_state.proofs.laws.sums.callers_are_summed_in_any_order.Goals as goal

pub returns : goal.returns
returns c = all-callers
