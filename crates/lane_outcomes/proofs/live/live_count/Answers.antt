use Rattle.std.proofs.Common.{◌∙◌, arith}
use Rattle.lane_outcomes.proofs.CountLemmas.{cached-balanced, few-ones, few-words}
use Rattle.lane_outcomes.proofs.LiveLemmas.{held-lists, live-balanced}
use Rattle.lane_outcomes.proofs.RoomLemmas.{outcomes-room}
use Rattle.lane_outcomes.specs.LaneCounts.{as_one, as_words}
use Rattle.lane_outcomes.proofs.live.live_count.Goals as goal

pub returns-clause-blocks : goal.returns-clause-blocks
returns-clause-blocks c =
    let given = c.count_lanes-tally.ensures.given.blocks_grow in
    let freed = c.count_lanes-tally.ensures.freed.blocks_grow in
    omega (arith, given, freed, c.saturating_sub-blocks.ensures, c.narrow.ensures, c.count_lanes-tally.type_inv)

pub returns-clause-words : goal.returns-clause-words
returns-clause-words c =
    let given = c.count_lanes-tally.ensures.given.words_grow in
    let freed = c.count_lanes-tally.ensures.freed.words_grow in
    omega (arith, given, freed, c.saturating_sub-words.ensures, c.narrow_words.ensures, c.count_lanes-tally.type_inv)

pub returns-clause-live : goal.returns-clause-live
returns-clause-live c =
    λ history lost trace legal fit.
    let g = c.args.trace.now.heap in
    let lanes = c.args.trace.now.lanes in
    let held = held-lists c.args.outcomes.now in
    let room = outcomes-room g history lost lanes _ fit in
    let live = live-balanced g history lanes _ trace.heap legal (cached-balanced as_one g history lost 0 lanes _ 0 few-ones trace.few_lanes held legal room)
    (cached-balanced as_words g history lost 0 lanes _ 0 few-words trace.few_lanes held legal room) in
    (returns-clause-blocks c ∙ live.0, returns-clause-words c ∙ live.1)
