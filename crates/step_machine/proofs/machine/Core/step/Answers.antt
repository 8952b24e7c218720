-- The step made on the lists is the step of the state, and keeps the machine's rule.
use Rattle.std.proofs.Common.{arith, subst}
use Rattle.std.proofs.lemmas.Grind.{common_steps}
use Rattle.step_machine.specs.Cores.{IsCore}
use Rattle.step_machine.proofs.AdvanceLemmas.{next-within, step-made}
use Rattle.step_machine.proofs.MeantLemmas.{step-meant}
use Rattle.step_machine.proofs.machine.Core.step.Goals as goal

pub index_mut-requires : goal.index_mut-requires
index_mut-requires c =
    grind (
      arith,
      common_steps,
      next-within _ c.args.self.now c.args.caller c.next_step-next.result c.self.invariant c.self.view_is c.next_step-next.ensures,
    )

pub invariant_of-self-2 : goal.invariant_of-self-2
invariant_of-self-2 c =
    (step-made _ c.args.self.now c.args.caller c.next_step-next.result c.index_mut-2.result.now c.go_on-progress.new.self c.go_on-progress.result
    c.add_event.new.events.items c.saturating_add-self-inside.result c.self.invariant c.self.view_is c.requires.caller c.requires.busy
    c.next_step-next.ensures c.index_mut-2.ensures.value c.go_on-progress.ensures.errand c.go_on-progress.ensures.answer c.in_ok-add_event.ensures.ok
    c.saturating_add-self-inside.ensures).core

pub returns-clause-ok : goal.returns-clause-ok
returns-clause-ok c =
    (step-made _ c.args.self.now c.args.caller c.next_step-next.result c.index_mut-2.result.now c.go_on-progress.new.self c.go_on-progress.result
    c.add_event.new.events.items c.saturating_add-self-inside.result c.self.invariant c.self.view_is c.requires.caller c.requires.busy
    c.next_step-next.ensures c.index_mut-2.ensures.value c.go_on-progress.ensures.errand c.go_on-progress.ensures.answer c.in_ok-add_event.ensures.ok
    c.saturating_add-self-inside.ensures).is

pub returns-clause-meant : goal.returns-clause-meant
returns-clause-meant c =
    step-meant c.args.self.now c.args.caller c.go_on-progress.result _ (subst IsCore c.self.view_is c.self.invariant) c.requires.caller
    (step-made _ c.args.self.now c.args.caller c.next_step-next.result c.index_mut-2.result.now c.go_on-progress.new.self c.go_on-progress.result
    c.add_event.new.events.items c.saturating_add-self-inside.result c.self.invariant c.self.view_is c.requires.caller c.requires.busy
    c.next_step-next.ensures c.index_mut-2.ensures.value c.go_on-progress.ensures.errand c.go_on-progress.ensures.answer c.in_ok-add_event.ensures.ok
    c.saturating_add-self-inside.ensures).is
