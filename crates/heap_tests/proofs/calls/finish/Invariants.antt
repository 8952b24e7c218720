use Rattle.live_heap.specs.Passes.{IsOf}
use Rattle.heap_tests.proofs.calls.finish.Given as goal

abbrev pub invariant-loop-made : goal.invariant-loop-made
invariant-loop-made l = IsOf l.heap l.pass
