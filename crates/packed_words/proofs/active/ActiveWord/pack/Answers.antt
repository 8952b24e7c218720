use Rattle.std.proofs.Common.{arith}
use Rattle.std.proofs.lemmas.Grind.{common_steps}
use Rattle.std.proofs.lemmas.Nat.{widths}
use Rattle.packed_words.specs.Active.{active_word}
use Rattle.packed_words.proofs.ExactLemmas.{back}
use Rattle.packed_words.proofs.ActiveLemmas.{active-exact}
use Rattle.packed_words.proofs.active.ActiveWord.pack.Goals as goal

pub returns-in-Null-clause-word : goal.returns-in-Null-clause-word
unfolding active_word
returns-in-Null-clause-word c = grind (arith, common_steps, widths)

pub returns-in-Null-clause-back : goal.returns-in-Null-clause-back
returns-in-Null-clause-back c = back active-exact _ c.args.self c.requires (returns-in-Null-clause-word c)

pub returns-in-Held-clause-word : goal.returns-in-Held-clause-word
unfolding active_word
returns-in-Held-clause-word c = grind (arith, common_steps, widths)

pub returns-in-Held-clause-back : goal.returns-in-Held-clause-back
returns-in-Held-clause-back c = back active-exact _ c.args.self c.requires (returns-in-Held-clause-word c)
