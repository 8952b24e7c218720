use Rattle.std.proofs.Common.{◌≡◌, ◌≤◌, ◌*◌, ◌^◌}
use Rattle.sound_state.specs.Sums.{sum_below}
use Rattle.step_machine.specs.Cores.{errand_at}
use Rattle.trace_commands.proofs.steps.cleared_in.Given as goal

abbrev pub invariant-loop-caller : goal.invariant-loop-caller
invariant-loop-caller l = record {
  value : l.cleared ≡ sum_below l.caller (λ caller. (errand_at l.core.errands caller).cleared);
  few : l.cleared ≤ 2 ^ 64 * l.caller;
}
