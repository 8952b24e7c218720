use Rattle.std.proofs.Common.{rules}
use Rattle.errand_steps.proofs.event.stack_event.Goals as goal

pub returns-in-Frames : goal.returns-in-Frames
returns-in-Frames c = search rules
