use Rattle.std.proofs.Common.{rules}
use Rattle.trace_text.specs.Said.{version_in}
use Rattle.trace_text.proofs.stage.version.Goals as goal

pub returns-then-eq-2 : goal.returns-then-eq-2
unfolding version_in
returns-then-eq-2 c = search rules
