use Rattle.trace_text.proofs.VersionLemmas.{said}
use Rattle.trace_text.proofs.laws.version_is_said.Goals as goal

pub returns : goal.returns
returns c = said
