use Rattle.pool_model.specs.declared.event.Event.TheVariants.{Put, Take}
use Rattle.pool_model.proofs.HistoryLemmas.{EachAfter-push}
use Rattle.std.specs.Prelude.{count_by}
use Rattle.shelf_laws.specs.Quiet.{IsQuietAfter, is_put_of, is_take_of, turn_of}
use Rattle.shelf_laws.proofs.GrowLemmas.{count-more, count-same}
use Rattle.shelf_laws.proofs.OwnLemmas.{from-sender}
use Rattle.shelf_laws.proofs.PipeLemmas.{put-is, put-turn, take-is, take-is-not, take-turn, turn-home}
use Rattle.shelf_laws.proofs.laws.messages_go_by_turns.Goals as goal

pub returns-clause-home : goal.returns-clause-home
returns-clause-home c = turn-home

pub returns-clause-within : goal.returns-clause-within
returns-clause-within c = λ senders shelves sender i some_shelves below.
    from-sender senders shelves sender (turn_of shelves sender i) some_shelves below (turn-home shelves sender i some_shelves)

pub returns-clause-put : goal.returns-clause-put
returns-clause-put c = λ senders shelves sender place events some_shelves quiet.
    EachAfter-push (IsQuietAfter senders shelves) events (Put sender place (turn_of shelves sender (count_by (is_put_of shelves sender) events))) quiet
    (put-turn senders shelves sender place events some_shelves)

pub returns-clause-take : goal.returns-clause-take
returns-clause-take c = λ senders shelves sender place events some_shelves quiet.
    EachAfter-push (IsQuietAfter senders shelves) events
    (Take senders (turn_of shelves sender (count_by (is_take_of senders shelves sender) events)) place) quiet
    (take-turn senders shelves sender place events some_shelves)

pub returns-clause-next_put : goal.returns-clause-next_put
returns-clause-next_put c = λ shelves sender place shelf events home.
    count-more (is_put_of shelves sender) events (Put sender place shelf) (put-is shelves sender place shelf home)

pub returns-clause-next_take : goal.returns-clause-next_take
returns-clause-next_take c = λ senders shelves sender place shelf events home.
    count-more (is_take_of senders shelves sender) events (Take senders shelf place) (take-is senders shelves sender place shelf home)

pub returns-clause-same_take : goal.returns-clause-same_take
returns-clause-same_take c = λ senders shelves sender place shelf events away.
    count-same (is_take_of senders shelves sender) events (Take senders shelf place) (take-is-not senders shelves sender place shelf away)
