use Rattle.std.proofs.Common.{[], ◌∷◌}
use Rattle.pool_model.specs.Legal.{IsLegalEvent, IsLegalEventWithoutCounts}
use Rattle.pool_model.proofs.HistoryLemmas.{pool_of-push, EachAfter-cut, EachAfter-last, EachAfter-push, legal-weaker}
use Rattle.pool_model.proofs.laws.histories_grow_by_events.Goals as goal

pub returns-clause-pool : goal.returns-clause-pool
returns-clause-pool c = pool_of-push

pub returns-clause-legal : goal.returns-clause-legal
returns-clause-legal c = λ g history event. (
  λ legal. (EachAfter-cut (IsLegalEvent g) history (event ∷ []) legal, EachAfter-last (IsLegalEvent g) history event legal),
  λ parts. EachAfter-push (IsLegalEvent g) history event parts.0 parts.1,
)

pub returns-clause-without_counts : goal.returns-clause-without_counts
returns-clause-without_counts c = λ g history event. (
  λ legal. (
    EachAfter-cut (IsLegalEventWithoutCounts g) history (event ∷ []) legal,
    EachAfter-last (IsLegalEventWithoutCounts g) history event legal,
  ),
  λ parts. EachAfter-push (IsLegalEventWithoutCounts g) history event parts.0 parts.1,
)

pub returns-clause-cut : goal.returns-clause-cut
returns-clause-cut c = λ g history rest. EachAfter-cut (IsLegalEvent g) history rest

pub returns-clause-cut_without_counts : goal.returns-clause-cut_without_counts
returns-clause-cut_without_counts c = λ g history rest. EachAfter-cut (IsLegalEventWithoutCounts g) history rest

pub returns-clause-weaker : goal.returns-clause-weaker
returns-clause-weaker c = legal-weaker
