use Rattle.block_pipe.specs.Ends.{IsReceiver}
use Rattle.pipe_runner.specs.Moves.{KeepsBlocks}
use Rattle.pipe_runner.proofs.Arriving.{HasCome, HasTriedFor}
use Rattle.pipe_runner.proofs.receiver.receive.Given as goal

abbrev pub invariant-loop : goal.invariant-loop
invariant-loop g l = record {
  can_next : (goal.iterator-loop g).can_next l.iterator';
  is_finite : (goal.iterator-loop g).is_finite l.iterator';
  of : IsReceiver l.pipe l.end;
  come : HasCome l.pipe l.initial.end l.end;
  keeps : KeepsBlocks l.heap l.initial.pass l.pass;
  tried : HasTriedFor l.end.kept l.initial.pass l.pass;
}
