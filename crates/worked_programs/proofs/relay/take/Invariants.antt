use Rattle.std.proofs.Common.{◌≡◌}
use Rattle.block_pipe.specs.Ends.{IsReceiver}
use Rattle.live_heap.specs.Whole.{IsAtRest}
use Rattle.worked_programs.proofs.relay.take.Given as goal

abbrev pub invariant-loop : goal.invariant-loop
invariant-loop g l = record {
  receiver : IsReceiver l.pipe l.receiver;
  rest : IsAtRest l.heap l.pass;
  caller : l.pass.errand.caller ≡ l.pipe.senders;
}
