use Rattle.std.proofs.Common.{rules}
use Rattle.packed_words.proofs.shelf.need_of_code.Goals as goal

pub returns-then-from-le-MAX_UNITS : goal.returns-then-from-le-MAX_UNITS
returns-then-from-le-MAX_UNITS c = search rules
