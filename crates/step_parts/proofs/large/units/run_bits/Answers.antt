use Rattle.step_parts.proofs.large_lemmas.UnitLemmas.{run_bits-shifts}
use Rattle.step_parts.proofs.large.units.run_bits.Goals as goal

pub returns : goal.returns
returns c =
    rw c.from.ensures (rw c.from-2.ensures (run_bits-shifts c.args.first c.args.units c.requires.some c.requires.within))
