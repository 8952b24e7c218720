use Rattle.std.proofs.Common.{arith}
use Rattle.std.proofs.lemmas.Grind.{common_steps}
use Rattle.std.proofs.lemmas.Nat.{widths}
use Rattle.packed_words.specs.Shelf.{shelf_word}
use Rattle.packed_words.proofs.ExactLemmas.{back}
use Rattle.packed_words.proofs.ShelfLemmas.{shelf-exact}
use Rattle.packed_words.proofs.shelf.ShelfWord.pack.Goals as goal

pub returns-in-Nothing-clause-word : goal.returns-in-Nothing-clause-word
unfolding shelf_word
returns-in-Nothing-clause-word c = grind (arith, common_steps, widths)

pub returns-in-Nothing-clause-back : goal.returns-in-Nothing-clause-back
returns-in-Nothing-clause-back c = back shelf-exact _ c.args.self c.requires (returns-in-Nothing-clause-word c)

pub returns-in-Block-clause-word : goal.returns-in-Block-clause-word
unfolding shelf_word
returns-in-Block-clause-word c = grind (arith, common_steps, widths)

pub returns-in-Block-clause-back : goal.returns-in-Block-clause-back
returns-in-Block-clause-back c = back shelf-exact _ c.args.self c.requires (returns-in-Block-clause-word c)
