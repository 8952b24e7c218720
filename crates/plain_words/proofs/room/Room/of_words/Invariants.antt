use Rattle.std.proofs.Common.{◌≡◌, ◌-◌, ◌≤◌, length}
use Rattle.plain_words.specs.Places.{blanks}
use Rattle.plain_words.proofs.Fills.{begun}
use Rattle.plain_words.proofs.room.Room.of_words.Given as goal

abbrev pub invariant-loop-i : goal.invariant-loop-i
invariant-loop-i g l = (l.i ≤ length l.words) × (l.room.plain.places ≡ begun l.words (blanks (length l.words)) l.i)

abbrev pub decreases-loop-i : goal.decreases-loop-i
decreases-loop-i g l = length l.words - l.i
