use Rattle.std.proofs.Common.{ℕ, sym, ◌∙◌}
use Rattle.std.proofs.lemmas.Option.{IfSome_then}
use Rattle.balloc_c.proofs.lending.next_laid.Goals as goal

pub returns : goal.returns
returns c = IfSome_then c.at_out.result c.at_out.ensures (λ (next : ℕ × ℕ) kept. (sym c.idle.ensures ∙ c.if-not-idle.false, kept.0, kept.1))
