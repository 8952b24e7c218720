use Rattle.trace_text.proofs.VersionLemmas.{same, one}
use Rattle.trace_text.proofs.laws.earlier_texts_are_read_as_before.Goals as goal

pub returns-clause-same : goal.returns-clause-same
returns-clause-same c = same

pub returns-clause-one : goal.returns-clause-one
returns-clause-one c = one
