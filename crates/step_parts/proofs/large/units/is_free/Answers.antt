use Rattle.step_parts.proofs.large_lemmas.UnitLemmas.{mask_test}
use Rattle.step_parts.proofs.large.units.is_free.Goals as goal

pub returns : goal.returns
returns c = mask_test c.args.bits c.args.first c.args.units c.run_bits.result c.run_bits.ensures
