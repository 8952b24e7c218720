use Rattle.std.proofs.Common.{not, ap, sym, ◌∙◌}
use Rattle.errand_steps.specs.Errands.{counts_won, raised}
use Rattle.live_heap.proofs.JoinLemmas.{rejoins}
use Rattle.live_heap.proofs.WalkLemmas.{no-exit, strides}
use Rattle.live_heap.proofs.heap.Heap.stride.Goals as goal

pub returns-then-is_at-clause-on : goal.returns-then-is_at-clause-on
returns-then-is_at-clause-on g c =
    let e = c.walk-found.new.pass.errand in
    let counts = c.count.ensures ∙ ap (λ action. record e { won = raised (counts_won action c.walk-found.result) e.won }) c.plan_block-action.ensures in
    let none = no-exit c.settle_block-exit.result (c.is_none.ensures ∙ ap not c.if-is_none.true) in
    strides c.args.self.now g.start c.args.tries c.args.at.now c.args.goes.now c.walk-found.result c.walk-found.new.pass c.walk-found.ensures
    c.if-found.true (sym c.settle_block-exit.ensures.exit ∙ none) c.settle_block-exit.new.at c.settle_block-exit.ensures.point c.count.new.self counts

pub returns-clause-off : goal.returns-clause-off
returns-clause-off g c =
    rejoins c.args.self.now g.start c.args.tries c.args.at.now c.args.goes.now c.walk-found.result c.walk-found.new.pass c.walk-found.ensures
    c.stand_at.new.self c.stand_at.ensures
