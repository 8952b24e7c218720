use Rattle.std.proofs.Common.{sym}
use Rattle.trace_text.proofs.CanonicalLemmas.{op_stands}
use Rattle.trace_text.proofs.canonical.op_with.Goals as goal

pub returns : goal.returns
returns c = op_stands c.args.version c.args.letter _ _ _ _ _ _ (sym c.in_ok-kinds.ensures) (sym c.in_ok-op.ensures) c.in_ok-numbers.ensures
