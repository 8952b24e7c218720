use Rattle.std.proofs.Common.{arith}
use Rattle.std.proofs.lemmas.Grind.{common_steps}
use Rattle.std.proofs.lemmas.Nat.{widths}
use Rattle.packed_words.specs.Prefix.{prefix_of}
use Rattle.packed_words.proofs.ExactLemmas.{reads}
use Rattle.packed_words.proofs.PrefixLemmas.{prefix-exact}
use Rattle.packed_words.proofs.prefix.Prefix.unpack.Goals as goal

pub returns-then-above-lt-DESC_LIMIT-clause-value : goal.returns-then-above-lt-DESC_LIMIT-clause-value
unfolding prefix_of
returns-then-above-lt-DESC_LIMIT-clause-value c = grind (arith, common_steps, widths)

pub returns-then-above-lt-DESC_LIMIT-clause-exact : goal.returns-then-above-lt-DESC_LIMIT-clause-exact
returns-then-above-lt-DESC_LIMIT-clause-exact c = reads prefix-exact c.args.word _ (omega arith) (returns-then-above-lt-DESC_LIMIT-clause-value c)

pub returns-then-above-from-clause-value : goal.returns-then-above-from-clause-value
unfolding prefix_of
returns-then-above-from-clause-value c = grind (arith, common_steps, widths)

pub returns-then-above-from-clause-exact : goal.returns-then-above-from-clause-exact
returns-then-above-from-clause-exact c = reads prefix-exact c.args.word _ (omega arith) (returns-then-above-from-clause-value c)

pub returns-else-kind-eq1-clause-value : goal.returns-else-kind-eq1-clause-value
unfolding prefix_of
returns-else-kind-eq1-clause-value c = grind (arith, common_steps, widths)

pub returns-else-kind-eq1-clause-exact : goal.returns-else-kind-eq1-clause-exact
returns-else-kind-eq1-clause-exact c = reads prefix-exact c.args.word _ (omega arith) (returns-else-kind-eq1-clause-value c)
