use Rattle.std.proofs.Common.{rules}
use Rattle.step_parts.proofs.large.words.payload_name.Goals as goal

pub returns : goal.returns
returns c = search rules
