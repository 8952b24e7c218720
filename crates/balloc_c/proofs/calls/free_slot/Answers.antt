use Rattle.std.proofs.Common.{sym, ◌∙◌}
use Rattle.balloc_c.proofs.calls.free_slot.Goals as goal

pub free_laid-requires-clause-laid : goal.free_laid-requires-clause-laid
free_laid-requires-clause-laid c = sym c.is_laid.ensures ∙ c.if-is_laid.true

pub free_kept-requires-clause-not_laid : goal.free_kept-requires-clause-not_laid
free_kept-requires-clause-not_laid c = sym c.is_laid.ensures ∙ c.if-is_laid.false
