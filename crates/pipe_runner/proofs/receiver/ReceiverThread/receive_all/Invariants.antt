use Rattle.pipe_runner.specs.Receivers.{IsReceiving}
use Rattle.pipe_runner.proofs.receiver.ReceiverThread.receive_all.Given as goal

abbrev pub invariant-loop : goal.invariant-loop
invariant-loop g l = record {
  can_next : (goal.iterator-loop g).can_next l.iterator';
  is_finite : (goal.iterator-loop g).is_finite l.iterator';
  stands : IsReceiving l.heap l.pipe l.self;
}
