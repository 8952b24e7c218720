use Rattle.trace_text.proofs.LawLemmas.{read_is_named}
use Rattle.trace_text.proofs.laws.read_is_named.Goals as goal

pub returns : goal.returns
returns c = read_is_named
