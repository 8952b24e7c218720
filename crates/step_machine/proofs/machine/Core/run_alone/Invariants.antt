use Rattle.sound_laws.specs.bounds.Alone.{alone_left}
use Rattle.step_machine.specs.Cores.{state_of}
use Rattle.step_machine.proofs.AloneLemmas.{IsSoFar}
use Rattle.step_machine.proofs.machine.Core.run_alone.Given as goal

abbrev pub invariant-loop-self : goal.invariant-loop-self
invariant-loop-self l = IsSoFar l.fn.self l.self l.caller l.steps

abbrev pub decreases-loop-self : goal.decreases-loop-self
decreases-loop-self l = alone_left l.self.geometry (state_of l.self) l.caller
