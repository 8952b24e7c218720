use Rattle.std.proofs.Common.{rules}
use Rattle.lane_engine.proofs.grip.GripToken.words.Goals as goal

pub returns : goal.returns
returns c = search rules
