use Rattle.pipe_runner.specs.EndCalls.{GaveNone, HasTried}
use Rattle.pipe_runner.specs.Moves.{KeepsBlocks}
use Rattle.pipe_runner.proofs.calls.allocate.Given as goal

abbrev pub invariant-loop : goal.invariant-loop
invariant-loop g l = record {
  can_next : (goal.iterator-loop g).can_next l.iterator';
  is_finite : (goal.iterator-loop g).is_finite l.iterator';
  keeps : KeepsBlocks l.heap l.initial.pass l.pass;
  refused : HasTried (GaveNone 3) l.initial.pass l.pass;
}
