use Rattle.block_pipe.specs.Ends.{IsSender}
use Rattle.worked_programs.proofs.relay.give.Given as goal

abbrev pub invariant-loop : goal.invariant-loop
invariant-loop g l = IsSender l.pipe l.sender
