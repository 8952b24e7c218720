use Rattle.std.proofs.Common.{sym, subst, ◌∙◌, ap}
use Rattle.pool_model.specs.Legal.{IsLegalWithoutCounts}
use Rattle.pool_model.specs.Pool.{block_at, pool_of}
use Rattle.pool_model.proofs.HistoryLemmas.{legal-weaker}
use Rattle.step_machine.specs.Seen.{seen}
use Rattle.step_machine.proofs.CoreLemmas.{core-sound}
use Rattle.step_machine.proofs.SeenLemmas.{told-need}
use Rattle.step_machine.proofs.machine.Core.block_at.Goals as goal

pub seen_at-requires : goal.seen_at-requires
seen_at-requires c = (
  c.self.inside.layout,
  subst (λ xs. IsLegalWithoutCounts c.self.inside.layout xs) (sym c.as_slice.ensures.value)
      (legal-weaker c.self.inside.layout c.self.inside.events.items (core-sound _ c.self.invariant).legal),
)

pub returns-clause-need : goal.returns-clause-need
returns-clause-need c =
    told-need c.self.inside.layout c.self.inside.events.items c.args.place c.seen_at.result
    (legal-weaker c.self.inside.layout c.self.inside.events.items (core-sound _ c.self.invariant).legal)
    (c.seen_at.ensures ∙ ap (λ xs. seen (block_at c.args.place (pool_of xs))) c.as_slice.ensures.value)
