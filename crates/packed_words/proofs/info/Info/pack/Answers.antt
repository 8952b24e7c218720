use Rattle.std.proofs.Common.{arith}
use Rattle.std.proofs.lemmas.Grind.{common_steps}
use Rattle.std.proofs.lemmas.Nat.{widths}
use Rattle.packed_words.specs.Info.{info_word}
use Rattle.packed_words.proofs.ExactLemmas.{back}
use Rattle.packed_words.proofs.InfoLemmas.{info-exact}
use Rattle.packed_words.proofs.info.Info.pack.Goals as goal

pub returns-clause-word : goal.returns-clause-word
unfolding info_word
returns-clause-word c = grind (arith, common_steps, widths)

pub returns-clause-back : goal.returns-clause-back
returns-clause-back c = back info-exact _ c.args.self (rw (← c.self.view_is) c.self.invariant) (returns-clause-word c)
