use Rattle.lane_outcomes.proofs.CachedWritten.{check-through, resize-through, shelved-through, slots-written}
use Rattle.lane_outcomes.proofs.cached_laws.checked_words_were_written_through_caches.Goals as goal

pub returns-clause-shelved : goal.returns-clause-shelved
returns-clause-shelved c =
    λ g history before lost depth lanes outcomes hits legal fit begins. shelved-through g history lost depth lanes outcomes hits legal fit before begins

pub returns-clause-held : goal.returns-clause-held
returns-clause-held c =
    λ g setting lost depth lanes outcomes hits operations results position legal fit walks moment.
    slots-written g setting.history lost depth lanes outcomes hits legal fit setting.caller setting.turn_limit setting.lost operations results position walks
    moment

pub returns-clause-checked : goal.returns-clause-checked
returns-clause-checked c =
    λ g history lost depth lanes outcomes hits lane r total earlier later results more legal fit.
    check-through g history lost depth lanes outcomes hits legal fit lane r total earlier later results more

pub returns-clause-copied : goal.returns-clause-copied
returns-clause-copied c =
    λ g history lost depth lanes outcomes hits lane r need words place earlier later results more legal fit.
    resize-through g history lost depth lanes outcomes hits legal fit lane r need words place earlier later results more
