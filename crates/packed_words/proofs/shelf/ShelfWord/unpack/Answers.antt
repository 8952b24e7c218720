use Rattle.std.proofs.Common.{arith}
use Rattle.std.proofs.lemmas.Grind.{common_steps}
use Rattle.std.proofs.lemmas.Nat.{widths}
use Rattle.packed_words.specs.Shelf.{shelf_of}
use Rattle.packed_words.proofs.ExactLemmas.{reads}
use Rattle.packed_words.proofs.ShelfLemmas.{shelf-exact}
use Rattle.packed_words.proofs.shelf.ShelfWord.unpack.Goals as goal

pub returns-then-word-eq0-clause-value : goal.returns-then-word-eq0-clause-value
unfolding shelf_of
returns-then-word-eq0-clause-value c = grind (arith, common_steps, widths)

pub returns-then-word-eq0-clause-exact : goal.returns-then-word-eq0-clause-exact
returns-then-word-eq0-clause-exact c = reads shelf-exact c.args.word _ (omega arith) (returns-then-word-eq0-clause-value c)

pub returns-then-above-lt1-clause-value : goal.returns-then-above-lt1-clause-value
unfolding shelf_of
returns-then-above-lt1-clause-value c = grind (arith, common_steps, widths)

pub returns-then-above-lt1-clause-exact : goal.returns-then-above-lt1-clause-exact
returns-then-above-lt1-clause-exact c = reads shelf-exact c.args.word _ (omega arith) (returns-then-above-lt1-clause-value c)

pub returns-in_err-need-clause-value : goal.returns-in_err-need-clause-value
unfolding shelf_of
returns-in_err-need-clause-value c = grind (arith, common_steps, widths)

pub returns-in_err-need-clause-exact : goal.returns-in_err-need-clause-exact
returns-in_err-need-clause-exact c = reads shelf-exact c.args.word _ (omega arith) (returns-in_err-need-clause-value c)

pub returns-clause-value : goal.returns-clause-value
unfolding shelf_of
returns-clause-value c = grind (arith, common_steps, widths)

pub returns-clause-exact : goal.returns-clause-exact
returns-clause-exact c = reads shelf-exact c.args.word _ (omega arith) (returns-clause-value c)
