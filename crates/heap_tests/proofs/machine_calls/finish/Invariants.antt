use Rattle.lane_engine.specs.Machines.{ServesCaller}
use Rattle.heap_tests.proofs.machine_calls.finish.Given as goal

abbrev pub invariant-loop-made : goal.invariant-loop-made
invariant-loop-made l = ServesCaller l.core l.caller
