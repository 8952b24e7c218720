use Rattle.std.proofs.Common.{Some, None, arith, sym}
use Rattle.step_parts.proofs.large_lemmas.LowestLemmas.{first_run-alone, first_run-found, refused-run}
use Rattle.step_parts.proofs.large.units.first_run.Goals as goal

pub returns-then-is_free-clause-exact : goal.returns-then-is_free-clause-exact
returns-then-is_free-clause-exact c =
    first_run-found c.args.bits c.args.units c.args.n c.loop-first.first
    (omega (arith, c.loop-first-test.true, c.saturating_sub-first-end.ensures, c.requires.wanted.0))
    (sym c.if-is_free.ensures)
    c.loop-first.invariant

pub returns-then-is_free-clause-value : goal.returns-then-is_free-clause-value
returns-then-is_free-clause-value c =
    first_run-alone c.args.bits c.args.units c.args.n (Some c.loop-first.first) (returns-then-is_free-clause-exact c)

pub returns-clause-exact : goal.returns-clause-exact
returns-clause-exact c = λ u within.
    refused-run c.args.bits u c.args.n
    (c.loop-first.invariant u (omega (arith, within, c.loop-first-test.false, c.saturating_sub-first-end.ensures)))

pub returns-clause-value : goal.returns-clause-value
returns-clause-value c = first_run-alone c.args.bits c.args.units c.args.n None (returns-clause-exact c)
