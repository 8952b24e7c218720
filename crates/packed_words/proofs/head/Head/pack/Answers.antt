use Rattle.std.proofs.Common.{arith}
use Rattle.std.proofs.lemmas.Grind.{common_steps}
use Rattle.std.proofs.lemmas.Nat.{widths}
use Rattle.packed_words.specs.Head.{head_word}
use Rattle.packed_words.proofs.HeadLemmas.{head_of-head_word}
use Rattle.packed_words.proofs.head.Head.pack.Goals as goal

pub returns-clause-word : goal.returns-clause-word
unfolding head_word
returns-clause-word c = grind (arith, common_steps, widths)

pub returns-clause-back : goal.returns-clause-back
returns-clause-back c = rw (returns-clause-word c) (head_of-head_word c.args.self (rw (← c.self.view_is) c.self.invariant))
