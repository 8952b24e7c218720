use Rattle.trace_text.proofs.RoundLemmas.{canonical_is_printed}
use Rattle.trace_text.proofs.laws.canonical_is_printed.Goals as goal

pub returns : goal.returns
returns c = canonical_is_printed
