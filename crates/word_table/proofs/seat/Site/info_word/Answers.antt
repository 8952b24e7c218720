use Rattle.std.proofs.Common.{arith}
use Rattle.packed_words.specs.Info.{info_word}
use Rattle.word_table.proofs.seat.Site.info_word.Goals as goal

pub returns : goal.returns
unfolding info_word
returns c = omega arith
