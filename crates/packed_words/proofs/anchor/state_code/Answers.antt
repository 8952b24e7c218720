use Rattle.std.proofs.Common.{rules}
use Rattle.packed_words.proofs.anchor.state_code.Goals as goal

pub returns-in-Full : goal.returns-in-Full
returns-in-Full c = search rules

pub returns-in-Partial : goal.returns-in-Partial
returns-in-Partial c = search rules
