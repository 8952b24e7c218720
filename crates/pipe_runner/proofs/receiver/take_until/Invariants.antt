use Rattle.pipe_runner.specs.EndCalls.{GotNone, HasTried}
use Rattle.pipe_runner.specs.Moves.{KeepsBlocks}
use Rattle.pipe_runner.proofs.receiver.take_until.Given as goal

abbrev pub invariant-loop : goal.invariant-loop
invariant-loop g l = record {
  can_next : (goal.iterator-loop g).can_next l.iterator';
  is_finite : (goal.iterator-loop g).is_finite l.iterator';
  keeps : KeepsBlocks l.heap l.initial.pass l.pass;
  missed : HasTried (GotNone l.shelf) l.initial.pass l.pass;
}
