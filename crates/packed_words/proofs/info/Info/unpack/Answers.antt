use Rattle.std.proofs.Common.{arith}
use Rattle.std.proofs.lemmas.Grind.{common_steps}
use Rattle.std.proofs.lemmas.Nat.{widths}
use Rattle.packed_words.specs.Info.{info_of}
use Rattle.packed_words.proofs.ExactLemmas.{reads}
use Rattle.packed_words.proofs.InfoLemmas.{info-exact}
use Rattle.packed_words.proofs.info.Info.unpack.Goals as goal

pub returns-then-class-from-clause-value : goal.returns-then-class-from-clause-value
unfolding info_of
returns-then-class-from-clause-value c = grind (arith, common_steps, widths)

pub returns-then-class-from-clause-exact : goal.returns-then-class-from-clause-exact
returns-then-class-from-clause-exact c = reads info-exact c.args.word _ (omega arith) (returns-then-class-from-clause-value c)

pub returns-else-frame-from-clause-value : goal.returns-else-frame-from-clause-value
unfolding info_of
returns-else-frame-from-clause-value c = grind (arith, common_steps, widths)

pub returns-else-frame-from-clause-exact : goal.returns-else-frame-from-clause-exact
returns-else-frame-from-clause-exact c = reads info-exact c.args.word _ (omega arith) (returns-else-frame-from-clause-value c)
