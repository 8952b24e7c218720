use Rattle.lane_outcomes.specs.LaneCounts.{as_one, as_words}
use Rattle.lane_outcomes.proofs.CountLemmas.{cached-balanced, few-ones, few-words}
use Rattle.lane_outcomes.proofs.LiveLemmas.{live-balanced}
use Rattle.lane_outcomes.proofs.cached_laws.live_blocks_are_counted.Goals as goal

pub returns : goal.returns
returns c =
    λ trace history lost depth outcomes hits is held legal fit.
    live-balanced trace.heap history trace.lanes outcomes is.heap legal
    (cached-balanced as_one trace.heap history lost depth trace.lanes outcomes hits few-ones is.few_lanes held legal fit)
    (cached-balanced as_words trace.heap history lost depth trace.lanes outcomes hits few-words is.few_lanes held legal fit)
