use Rattle.std.proofs.Common.{refl, sym, subst, inl, inr}
use Rattle.errand_steps.specs.Begins.{IsIdle}
use Rattle.live_heap.specs.declared.pass.Pass.{Pass}
use Rattle.live_heap.specs.Whole.{by_steps, at_once}
use Rattle.worked_programs.proofs.embedded.allocate.Goals as goal

pub returns-in-Refused-clause-stopped : goal.returns-in-Refused-clause-stopped
returns-in-Refused-clause-stopped c =
    let told = c.in-Refused.ensures.tells in
    ((by_steps (told.steps, told.called), tt, refl, (c.alloc.ensures.of, told.called.idle)), tt)

pub returns-in-Spent-clause-stopped : goal.returns-in-Spent-clause-stopped
returns-in-Spent-clause-stopped c =
    elim c.in-Spent.ensures.tells [
      | inl once ↦
          let idle = subst (λ (p : Pass). IsIdle p.errand) (sym once.same) c.requires.rest.1 in
          ((at_once c.args.words refl refl once, tt, refl, (c.alloc.ensures.of, idle)), tt)
      | inr told ↦ ((by_steps (told.0.steps, told.0.called), tt, refl, (c.alloc.ensures.of, told.0.called.idle)), tt)
    ]
