use Rattle.std.proofs.Common.{ℕ, ◌≡◌, ◌<◌, length}
use Rattle.plain_words.specs.Places.{AllHere, IsLaid}
use Rattle.benches.proofs.pieces.laid.Given as goal

abbrev pub invariant-loop-i : goal.invariant-loop-i
invariant-loop-i l = record {
  at : l.words.at ≡ l.fn.piece.words.at;
  first : l.words.first ≡ l.fn.piece.words.first;
  long : length l.words.places ≡ length l.fn.piece.words.places;
  here : AllHere l.words.places;
  laid : (k : ℕ) → k < l.i → IsLaid l.words.places k;
}
