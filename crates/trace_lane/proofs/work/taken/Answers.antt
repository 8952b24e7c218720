use Rattle.std.proofs.Common.{refl, inr, sym, ap, subst}
use Rattle.trace_lane.specs.declared.work.Work.TheVariants as work
use Rattle.trace_lane.specs.declared.work.Worked.TheVariants as worked
use Rattle.trace_lane.proofs.Common.{ended_as}
use Rattle.trace_lane.specs.Works.{WorksTo}
use Rattle.trace_lane.proofs.MadeLemmas.{misses-more}
use Rattle.trace_lane.proofs.work.taken.Goals as goal

pub returns-in-Missed : goal.returns-in-Missed
returns-in-Missed g c =
    let shelf = c.args.shelf in
    let expected = c.in-Missed.expected in
    let found = c.in-Missed.found in
    let told = ap (ended_as g.B.Token.place_of g.B.Token.need_of) c.in-Missed.is in
    record {
      worked = subst (λ a. WorksTo (work.Taking shelf) a (worked.Going (work.Taking shelf))) (sym told)
          (refl, inr (shelf, refl, refl, expected, found, refl), λ made are. misses-more shelf made expected found are);
    }
