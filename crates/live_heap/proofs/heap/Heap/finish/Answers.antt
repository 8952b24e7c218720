use Rattle.std.proofs.Common.{ap, subst, ◌∙◌}
use Rattle.errand_steps.specs.Errands.{counts_won, raised}
use Rattle.live_heap.specs.Going.{EndsBy}
use Rattle.live_heap.proofs.JoinLemmas.{rejoins}
use Rattle.live_heap.proofs.WalkLemmas.{finishes}
use Rattle.live_heap.proofs.heap.Heap.finish.Goals as goal

pub returns-in-Some-clause-ends : goal.returns-in-Some-clause-ends
returns-in-Some-clause-ends g c =
    let e = c.walk-found.new.pass.errand in
    let counts = c.count.ensures ∙ ap (λ action. record e { won = raised (counts_won action c.walk-found.result) e.won }) c.plan_block-action.ensures in
    let ends = c.in-Some.ensures in
    finishes c.args.self.now g.start c.args.tries c.args.at.now c.args.goes.now c.walk-found.result c.walk-found.new.pass c.walk-found.ensures
    ends.0 c.in-Some.ending (subst (λ exit. EndsBy exit c.in-Some.ending) c.settle_block-exit.ensures.exit ends.1) c.count.new.self counts

pub returns-clause-off : goal.returns-clause-off
returns-clause-off g c =
    rejoins c.args.self.now g.start c.args.tries c.args.at.now c.args.goes.now c.walk-found.result c.walk-found.new.pass c.walk-found.ensures
    c.stand_at.new.self c.stand_at.ensures
