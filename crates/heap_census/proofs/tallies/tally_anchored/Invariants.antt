use Rattle.heap_census.specs.Census.{closed_state}
use Rattle.heap_census.specs.Tallies.{AreTallies, anchored_tally}
use Rattle.heap_census.proofs.tallies.tally_anchored.Given as goal

-- the descriptors before the next one are counted
abbrev pub invariant-loop-desc : goal.invariant-loop-desc
invariant-loop-desc l = AreTallies l.tallies (anchored_tally (closed_state l.closed) l.desc)
