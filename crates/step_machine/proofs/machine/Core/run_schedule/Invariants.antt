use Rattle.std.proofs.Common.{◌≡◌, ◌≤◌, take}
use Rattle.errand_steps.specs.Steps.{Run}
use Rattle.step_machine.specs.Cores.{state_of}
use Rattle.step_machine.specs.Steps.{counted}
use Rattle.step_machine.proofs.machine.Core.run_schedule.Given as goal

abbrev pub invariant-loop-caller : goal.invariant-loop-caller
invariant-loop-caller l =
    record {
      geometry : l.self.geometry ≡ l.fn.self.geometry;
      few : l.steps ≤ l.caller-index;
      counts : l.self.steps ≡ counted l.fn.self.steps l.steps;
      run : Run (state_of l.fn.self) (take l.caller-index l.callers) l.steps (state_of l.self);
    }
