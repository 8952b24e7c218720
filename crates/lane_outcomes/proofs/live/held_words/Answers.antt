use Rattle.std.proofs.Common.{rules}
use Rattle.lane_outcomes.proofs.live.held_words.Goals as goal

pub returns-in-Some : goal.returns-in-Some
returns-in-Some c = search rules
