use Rattle.std.proofs.Common.{rules}
use Rattle.step_parts.proofs.stack.words.next_name.Goals as goal

pub returns-in-Frames : goal.returns-in-Frames
returns-in-Frames c = search rules
