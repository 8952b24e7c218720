use Rattle.std.proofs.Common.{◌≡◌, ◌≤◌, take}
use Rattle.step_machine.specs.Cores.{state_of}
use Rattle.step_machine.specs.Replies.{Replies}
use Rattle.step_machine.specs.Steps.{counted}
use Rattle.step_machine.proofs.machine.Core.run_replies.Given as goal

abbrev pub invariant-loop-caller : goal.invariant-loop-caller
invariant-loop-caller l =
    record {
      geometry : l.self.geometry ≡ l.fn.self.geometry;
      few : l.steps ≤ l.caller-index;
      counts : l.self.steps ≡ counted l.fn.self.steps l.steps;
      run : Replies (state_of l.fn.self) (take l.caller-index l.callers) l.steps l.fn.replies.items l.replies.items (state_of l.self);
    }
