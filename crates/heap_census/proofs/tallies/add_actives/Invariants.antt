use Rattle.heap_census.specs.Census.{closed_state}
use Rattle.heap_census.specs.Tallies.{IsSameTally, with_actives}
use Rattle.heap_census.proofs.tallies.add_actives.Given as goal

-- the active words before the next one are counted
abbrev pub invariant-loop-heap : goal.invariant-loop-heap
invariant-loop-heap l = IsSameTally l.tally (with_actives (closed_state l.closed) l.fn.anchored l.class l.heap)
