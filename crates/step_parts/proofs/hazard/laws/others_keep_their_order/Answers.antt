use Rattle.step_parts.proofs.hazard_lemmas.RemoveLemmas.{without-append}
use Rattle.step_parts.proofs.hazard.laws.others_keep_their_order.Goals as goal

pub returns : goal.returns
returns c = without-append
