use Rattle.std.proofs.Common.{inl, inr, arith, below_more}
use Rattle.std.proofs.lemmas.Bool.{cases_lt, both_ways}
use Rattle.plain_pool.proofs.marks.least_gap.Goals as goal

pub returns-then-is_gap-clause-least : goal.returns-then-is_gap-clause-least
returns-then-is_gap-clause-least c = λ j gap.
    elim (cases_lt j c.loop-first.first) [ inl below ↦ absurd (c.loop-first.invariant j below gap) | inr above ↦ above ]

pub loop-first-preserved : goal.loop-first-preserved
loop-first-preserved c =
    below_more _ _ c.loop-first.invariant (λ gap. both_ways c.is_gap.result c.if-is_gap.false (c.is_gap.ensures.1 gap))

pub returns-clause-none : goal.returns-clause-none
returns-clause-none c = λ j gap. c.loop-first.invariant j (omega (arith, gap.0)) gap
