use Rattle.std.proofs.Common.{List, ap, sym, ◌∙◌, subst, refl}
use Rattle.atomic_region.specs.Region.{Me}
use Rattle.word_table.specs.Actions.{name_of}
use Rattle.word_table.specs.Table.{Exists}
use Rattle.errand_steps.specs.Errands.{ErrandFields}
use Rattle.errand_steps.specs.Told.{GivesBack, IsTellable}
use Rattle.step_machine.proofs.MomentAnswers.{settle-caller}
use Rattle.live_heap.specs.declared.pass.Pass.{Pass}
use Rattle.live_heap.specs.declared.view.View.{View}
use Rattle.live_heap.specs.Answers.{block_need, block_place}
use Rattle.pool_model.specs.declared.event.Event.{Event}
use Rattle.live_heap.specs.Shelves.{PutsByRule}
use Rattle.live_heap.proofs.Begun.{of-laid}
use Rattle.live_heap.proofs.PutsNone.{settle-puts}
use Rattle.live_heap.proofs.LayLemmas.{found-from, still-sight}
use Rattle.live_heap.proofs.Stepped.{of-sight, still-of, took-access, took-step, has-stepped}
use Rattle.step_machine.proofs.TellLemmas.{moment-tellable}
use Rattle.live_heap.proofs.heap.Heap.step.Goals as goal

pub make_ready-requires-clause-table : goal.make_ready-requires-clause-table
make_ready-requires-clause-table g c = c.requires.of.table

pub make_ready-requires-clause-empty : goal.make_ready-requires-clause-empty
make_ready-requires-clause-empty g c = c.requires.of.empty

pub make_ready-requires-clause-settled : goal.make_ready-requires-clause-settled
make_ready-requires-clause-settled g c = c.requires.of.settled

pub make_ready-requires-clause-sight : goal.make_ready-requires-clause-sight
make_ready-requires-clause-sight g c = of-sight c.args.self.now c.args.pass.now c.requires.of

pub act-found-requires-clause-table : goal.act-found-requires-clause-table
act-found-requires-clause-table g c = c.make_ready.ensures.region ∙ c.requires.of.table

pub act-found-requires-clause-sight : goal.act-found-requires-clause-sight
act-found-requires-clause-sight g c =
    let h = c.args.self.now in
    let p = c.args.pass.now in
    still-sight h.layout p.seat.me c.make_ready.new.seat.me p.errand c.make_ready.ensures.knows (of-sight h p c.requires.of)

pub act-found-requires-clause-there : goal.act-found-requires-clause-there
act-found-requires-clause-there g c =
    subst (λ k. Exists k (name_of c.plan-action.result)) (of-laid c.args.self.now c.args.pass.now c.requires.of) c.plan-action.ensures.exists

pub told-requires : goal.told-requires
told-requires g c =
    let s = found-from c.args.pass.now.errand c.act-found.result c.args.pass.now.seat.me c.make_ready.new.seat.me c.act-found.new.seat.me.0 c.make_ready.ensures.knows
    c.requires.of.settled c.act-found.ensures.step in
    let q : Pass = record { seat = c.act-found.new.seat; errand = c.go_on-progress.new.self; out = c.args.pass.now.out } in
    let m = took-step c.args.pass.now q s.0 c.go_on-progress.result (c.go_on-progress.ensures.errand ∙ s.2) (c.go_on-progress.ensures.answer ∙ s.3) s.1 in
    subst (λ o. IsTellable o c.go_on-progress.result) (sym c.offered-offer.ensures) (moment-tellable _ _ _ _ _ m)

pub returns-clause-of : goal.returns-clause-of
returns-clause-of g c =
    let d = c.act-found.ensures in
    let s = found-from c.args.pass.now.errand c.act-found.result c.args.pass.now.seat.me c.make_ready.new.seat.me c.act-found.new.seat.me.0 c.make_ready.ensures.knows
    c.requires.of.settled c.act-found.ensures.step in
    let q : Pass = record { seat = c.act-found.new.seat; errand = c.go_on-progress.new.self; out = c.args.pass.now.out } in
    still-of c.args.self.now c.args.pass.now q s.0 c.requires.of (d.seat.0 ∙ c.make_ready.ensures.region)
    (d.seat.1 ∙ ap (λ (m : Me View). m.1) c.make_ready.ensures.knows ∙ sym c.requires.of.empty) refl (c.go_on-progress.ensures.errand ∙ s.2) s.1

pub returns-clause-caller : goal.returns-clause-caller
returns-clause-caller g c =
    let s = found-from c.args.pass.now.errand c.act-found.result c.args.pass.now.seat.me c.make_ready.new.seat.me c.act-found.new.seat.me.0 c.make_ready.ensures.knows
    c.requires.of.settled c.act-found.ensures.step in
    ap (λ (e : ErrandFields). e.caller) (c.go_on-progress.ensures.errand ∙ s.2) ∙ settle-caller c.args.pass.now.errand _

pub returns-clause-busy : goal.returns-clause-busy
returns-clause-busy g c =
    let s = found-from c.args.pass.now.errand c.act-found.result c.args.pass.now.seat.me c.make_ready.new.seat.me c.act-found.new.seat.me.0 c.make_ready.ensures.knows
    c.requires.of.settled c.act-found.ensures.step in
    let q : Pass = record { seat = c.act-found.new.seat; errand = c.go_on-progress.new.self; out = c.args.pass.now.out } in
    let m = took-step c.args.pass.now q s.0 c.go_on-progress.result (c.go_on-progress.ensures.errand ∙ s.2) (c.go_on-progress.ensures.answer ∙ s.3) s.1 in
    λ busy.
    has-stepped c.args.pass.now q c.go_on-progress.result c.told.result m (took-access c.args.pass.now.errand c.args.pass.now q s.0 s.1) c.told.ensures.progress
    (subst (λ o. GivesBack block_place block_need o c.told.result) c.offered-offer.ensures c.told.ensures.back)

pub act-found-requires-clause-puts : goal.act-found-requires-clause-puts
act-found-requires-clause-puts g c =
    subst (λ (s : List Event). PutsByRule g.R.ShelfRule.allows s c.args.pass.now.errand) (sym (ap (λ (m : Me View). m.0.seen) c.make_ready.ensures.knows)) c.requires.puts

pub returns-clause-puts : goal.returns-clause-puts
returns-clause-puts g c =
    subst (PutsByRule g.R.ShelfRule.allows c.act-found.new.seat.me.0.seen) (sym c.go_on-progress.ensures.errand)
    (settle-puts g.R.ShelfRule.allows c.act-found.new.seat.me.0.seen c.args.pass.now.errand c.act-found.result)

pub returns-clause-by_rule : goal.returns-clause-by_rule
returns-clause-by_rule g c = λ busy. c.act-found.ensures.by_rule
