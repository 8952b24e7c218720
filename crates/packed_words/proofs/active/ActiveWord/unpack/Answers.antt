use Rattle.std.proofs.Common.{arith}
use Rattle.std.proofs.lemmas.Grind.{common_steps}
use Rattle.std.proofs.lemmas.Nat.{widths}
use Rattle.packed_words.specs.Active.{active_of}
use Rattle.packed_words.proofs.ExactLemmas.{reads}
use Rattle.packed_words.proofs.ActiveLemmas.{active-exact}
use Rattle.packed_words.proofs.active.ActiveWord.unpack.Goals as goal

pub returns-then-word-eq0-clause-value : goal.returns-then-word-eq0-clause-value
unfolding active_of
returns-then-word-eq0-clause-value c = grind (arith, common_steps, widths)

pub returns-then-word-eq0-clause-exact : goal.returns-then-word-eq0-clause-exact
returns-then-word-eq0-clause-exact c = reads active-exact c.args.word _ (omega arith) (returns-then-word-eq0-clause-value c)

pub returns-then-above-le-DESC_LIMIT-clause-value : goal.returns-then-above-le-DESC_LIMIT-clause-value
unfolding active_of
returns-then-above-le-DESC_LIMIT-clause-value c = grind (arith, common_steps, widths)

pub returns-then-above-le-DESC_LIMIT-clause-exact : goal.returns-then-above-le-DESC_LIMIT-clause-exact
returns-then-above-le-DESC_LIMIT-clause-exact c = reads active-exact c.args.word _ (omega arith) (returns-then-above-le-DESC_LIMIT-clause-value c)

pub returns-else-above-ge1-clause-value : goal.returns-else-above-ge1-clause-value
unfolding active_of
returns-else-above-ge1-clause-value c = grind (arith, common_steps, widths)

pub returns-else-above-ge1-clause-exact : goal.returns-else-above-ge1-clause-exact
returns-else-above-ge1-clause-exact c = reads active-exact c.args.word _ (omega arith) (returns-else-above-ge1-clause-value c)
