use Rattle.std.proofs.Common.{rules}
use Rattle.packed_words.specs.Active.{active_word}
use Rattle.step_parts.proofs.superblock.words.held_word.Goals as goal

pub returns : goal.returns
unfolding active_word
returns c = search rules
