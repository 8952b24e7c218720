use Rattle.std.proofs.Common.{arith}
use Rattle.std.proofs.lemmas.Grind.{common_steps}
use Rattle.std.proofs.lemmas.Nat.{widths}
use Rattle.packed_words.specs.Anchor.{anchor_word}
use Rattle.packed_words.proofs.anchor.anchor_word.Goals as goal

pub returns : goal.returns
unfolding anchor_word
returns c = grind (arith, common_steps, widths)
