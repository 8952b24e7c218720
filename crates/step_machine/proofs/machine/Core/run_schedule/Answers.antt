use Rattle.std.proofs.Common.{arith, ap, ◌∙◌}
use Rattle.step_machine.specs.Cores.{state_of}
use Rattle.step_machine.specs.Steps.{counted}
use Rattle.step_machine.proofs.StepLemmas.{counted-add, run-next}
use Rattle.step_machine.proofs.machine.Core.run_schedule.Goals as goal

pub loop-caller-preserved : goal.loop-caller-preserved
loop-caller-preserved c =
    record {
      geometry = c.in-Ok.ensures.geometry ∙ c.loop-caller.invariant.geometry;
      few = omega (arith, c.loop-caller.invariant.few, c.in-Ok.ensures.few);
      counts =
          c.in-Ok.ensures.counts
          ∙ (ap (λ n. counted n c.in-Ok.made) c.loop-caller.invariant.counts
          ∙ counted-add c.args.self.now.steps c.loop-caller.steps c.in-Ok.made);
      run =
          run-next (state_of c.args.self.now) (state_of c.loop-caller.self) (state_of c.fill_slot.new.self) c.args.callers.now
          c.loop-caller.caller-index c.from.result c.loop-caller.steps c.in-Ok.made c.loop-caller-test.true c.from.ensures
          c.loop-caller.invariant.run c.in-Ok.ensures.slot;
    }
