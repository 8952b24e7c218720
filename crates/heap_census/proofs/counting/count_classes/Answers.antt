use Rattle.std.proofs.Common.{◌∙◌, arith, rules}
use Rattle.std.proofs.lemmas.List.{length-set}
use Rattle.heap_census.specs.Census.{IsClassCount}
use Rattle.heap_census.proofs.ClassLemmas.{counts-more}
use Rattle.heap_census.proofs.counting.count_classes.Goals as goal

pub loop-class-preserved : goal.loop-class-preserved
loop-class-preserved c = record {
  classes = length-set c.loop-class.counts c.from-in-loop-class.result c.count_class.result ∙ c.loop-class.invariant.classes;
  each = λ lists listed.
      counts-more (IsClassCount c.args.closed.now lists) c.loop-class.counts c.loop-class.class c.from-in-loop-class.result c.count_class.result
      c.from-in-loop-class.ensures (omega (arith, c.loop-class.invariant.classes)) (c.loop-class.invariant.each lists listed)
      (c.count_class.ensures lists listed);
}

pub returns-clause-each : goal.returns-clause-each
returns-clause-each c = λ l listed class below. c.loop-class.invariant.each l listed class (omega (arith, below))

pub loop-class-init : goal.loop-class-init
loop-class-init c = search rules
