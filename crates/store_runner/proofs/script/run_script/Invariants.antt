use Rattle.store_runner.specs.Scripts.{IsBehind}
use Rattle.store_runner.proofs.script.run_script.Given as goal

abbrev pub invariant-loop-round : goal.invariant-loop-round
invariant-loop-round g l = IsBehind l.heap l.round l.store
