use Rattle.std.proofs.Common.{ap, sym, subst, ◌∙◌, refl}
use Rattle.word_table.specs.declared.action.Action.{Action}
use Rattle.word_table.specs.Actions.{name_of}
use Rattle.word_table.specs.Table.{Exists}
use Rattle.errand_steps.specs.Begins.{IsBusy}
use Rattle.errand_steps.specs.Errands.{ErrandFields, plan_of}
use Rattle.errand_steps.proofs.PlanLemmas.{plan-exists}
use Rattle.live_heap.specs.Pieces.{IsReady}
use Rattle.live_heap.proofs.ShelfSteps.{planned-on}
use Rattle.live_heap.proofs.heap.Heap.step_on_shelf.Goals as goal

pub act-requires-clause-busy : goal.act-requires-clause-busy
act-requires-clause-busy g c = subst IsBusy (sym c.requires.named) refl

pub act-requires-clause-planned : goal.act-requires-clause-planned
act-requires-clause-planned g c =
    c.requires.planned ∙ (planned-on c.args._errand.now c.args._at.now ∙ ap plan_of (sym c.requires.named))

pub act-requires-clause-there : goal.act-requires-clause-there
act-requires-clause-there g c =
    let r = c.requires in
    let e = g.E.Doing.errand in
    let there = plan-exists e.geometry e.caller e.point r.rule.geometry r.rule.caller r.rule.point in
    let at : Exists c.args.self.now.layout (name_of (plan_of e)) = subst (λ k. Exists k (name_of (plan_of e))) r.sight.laid there in
    subst (λ (a : Action). Exists c.args.self.now.layout (name_of a))
    (ap plan_of r.named ∙ (sym (planned-on c.args._errand.now c.args._at.now) ∙ sym c.requires.planned)) at

pub act-requires-clause-ready : goal.act-requires-clause-ready
act-requires-clause-ready g c =
    let h = c.args.self.now in
    subst (λ (e : ErrandFields). IsReady h.layout e.point c.args.seat.now.me.0) (sym c.requires.named)
    (c.requires.opens_none c.args.seat.now.me.0)
