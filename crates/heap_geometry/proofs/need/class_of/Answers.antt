-- The least blocks are those that `need_of` computes.
use Rattle.heap_geometry.specs.declared.need.Need.TheVariants.{Small, Large, TooLarge}
use Rattle.heap_geometry.proofs.NeedLemmas.{need_of-is}
use Rattle.heap_geometry.proofs.need.class_of.Goals as goal

pub returns-then-need-le-SMALL_MOST-clause-value : goal.returns-then-need-le-SMALL_MOST-clause-value
returns-then-need-le-SMALL_MOST-clause-value c =
    need_of-is c.args.need (Small c.least_class.result) (c.if-need-le-SMALL_MOST.true, c.least_class.ensures.least)

pub returns-then-need-le-LARGE_MOST-clause-value : goal.returns-then-need-le-LARGE_MOST-clause-value
returns-then-need-le-LARGE_MOST-clause-value c =
    need_of-is c.args.need (Large c.least_run.result)
    (c.if-need-le-SMALL_MOST.false, c.if-need-le-LARGE_MOST.true, c.least_run.ensures.least)

pub returns-else-need-le-LARGE_MOST-clause-value : goal.returns-else-need-le-LARGE_MOST-clause-value
returns-else-need-le-LARGE_MOST-clause-value c = need_of-is c.args.need TooLarge c.if-need-le-LARGE_MOST.false
