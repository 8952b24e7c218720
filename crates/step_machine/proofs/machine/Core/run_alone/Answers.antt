use Rattle.std.proofs.Common.{arith, rules, sym, subst}
use Rattle.step_machine.specs.Cores.{CoreFields, IsCore}
use Rattle.step_machine.proofs.AloneLemmas.{IsSoFar, none-so-far, so-far-falls, so-far-room, so-far-next, so-far-bound, so-far-few, so-far-lost, so-far-first, so-far-cleared}
use Rattle.step_machine.proofs.CoreLemmas.{core-sound}
use Rattle.step_machine.proofs.machine.Core.run_alone.Goals as goal

pub loop-self-init : goal.loop-self-init
loop-self-init c = none-so-far c.args.self.now c.args.caller (core-sound c.args.self.now (subst IsCore c.self.view_is c.self.invariant))

pub overflow_add-steps : goal.overflow_add-steps
overflow_add-steps c =
    omega (
      arith,
      so-far-room c.args.self.now c.loop-self.self c.step.new.self c.args.caller c.loop-self.steps c.requires c.loop-self.invariant
          c.in-Ok.ensures.ok.step,
    )

pub loop-self-smaller : goal.loop-self-smaller
loop-self-smaller c =
    so-far-falls c.args.self.now c.loop-self.self c.step.new.self c.args.caller c.loop-self.steps c.requires c.loop-self.invariant
    c.in-Ok.ensures.ok.step c.in-Ok.ensures.geometry

pub loop-self-preserved : goal.loop-self-preserved
loop-self-preserved c =
    so-far-next c.args.self.now c.loop-self.self c.step.new.self c.args.caller c.loop-self.steps c.in-Ok.field-0 c.requires c.loop-self.invariant
    c.in-Ok.ensures.ok c.in-Ok.ensures.geometry

-- where memory ended the run the machine is as it was before that step
pub returns-in-Err-clause-lost : goal.returns-in-Err-clause-lost
returns-in-Err-clause-lost c =
    so-far-lost c.args.self.now c.step.new.self c.args.caller c.loop-self.steps c.requires
    (subst (λ (v : CoreFields). IsSoFar c.args.self.now v c.args.caller c.loop-self.steps) (sym c.in-Err.ensures.err) c.loop-self.invariant)

pub returns-in-Err-clause-first : goal.returns-in-Err-clause-first
returns-in-Err-clause-first c =
    so-far-first c.args.self.now c.step.new.self c.args.caller c.loop-self.steps c.requires
    (subst (λ (v : CoreFields). IsSoFar c.args.self.now v c.args.caller c.loop-self.steps) (sym c.in-Err.ensures.err) c.loop-self.invariant)

pub returns-in-Err-clause-cleared : goal.returns-in-Err-clause-cleared
returns-in-Err-clause-cleared c =
    so-far-cleared c.args.self.now c.step.new.self c.args.caller c.loop-self.steps c.requires
    (subst (λ (v : CoreFields). IsSoFar c.args.self.now v c.args.caller c.loop-self.steps) (sym c.in-Err.ensures.err) c.loop-self.invariant)

pub returns-clause-bound : goal.returns-clause-bound
returns-clause-bound c = so-far-bound c.args.self.now c.loop-self.self c.args.caller c.loop-self.steps c.requires c.loop-self.invariant

pub returns-clause-few : goal.returns-clause-few
returns-clause-few c = so-far-few c.args.self.now c.loop-self.self c.args.caller c.loop-self.steps c.requires c.loop-self.invariant

pub returns-clause-lost : goal.returns-clause-lost
returns-clause-lost c = so-far-lost c.args.self.now c.loop-self.self c.args.caller c.loop-self.steps c.requires c.loop-self.invariant

pub returns-clause-first : goal.returns-clause-first
returns-clause-first c = so-far-first c.args.self.now c.loop-self.self c.args.caller c.loop-self.steps c.requires c.loop-self.invariant

pub returns-clause-cleared : goal.returns-clause-cleared
returns-clause-cleared c = so-far-cleared c.args.self.now c.loop-self.self c.args.caller c.loop-self.steps c.requires c.loop-self.invariant

pub step-requires-clause-busy : goal.step-requires-clause-busy
step-requires-clause-busy c = search rules

pub returns-in-Err-clause-err : goal.returns-in-Err-clause-err
returns-in-Err-clause-err c = search rules

pub returns-in-Err-clause-idle : goal.returns-in-Err-clause-idle
returns-in-Err-clause-idle c = search rules

pub returns-clause-ok : goal.returns-clause-ok
returns-clause-ok c = search rules
