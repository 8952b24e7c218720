use Rattle.std.proofs.Common.{[], ◌∷◌}
use Rattle.pool_model.proofs.HistoryLemmas.{EachAfter-cut, EachAfter-last, EachAfter-nil, EachAfter-push}
use Rattle.shelf_laws.specs.Quiet.{IsQuietAfter}
use Rattle.shelf_laws.proofs.OwnLemmas.{quiet-more, turns-stay}
use Rattle.shelf_laws.proofs.laws.quiet_grows_by_events.Goals as goal

pub returns-clause-none : goal.returns-clause-none
returns-clause-none c = λ senders shelves. EachAfter-nil (IsQuietAfter senders shelves)

pub returns-clause-event : goal.returns-clause-event
returns-clause-event c = λ senders shelves events event. (
  λ quiet. (
    EachAfter-cut (IsQuietAfter senders shelves) events (event ∷ []) quiet,
    EachAfter-last (IsQuietAfter senders shelves) events event quiet,
  ),
  λ parts. EachAfter-push (IsQuietAfter senders shelves) events event parts.0 parts.1,
)

pub returns-clause-outside : goal.returns-clause-outside
returns-clause-outside c = quiet-more

pub returns-clause-turns : goal.returns-clause-turns
returns-clause-turns c = turns-stay
