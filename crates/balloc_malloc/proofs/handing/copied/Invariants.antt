use Rattle.std.proofs.Common.{ℕ, ◌≡◌, ◌<◌, length}
use Rattle.std.specs.Prelude.{slice_index}
use Rattle.plain_words.specs.Places.{AllHere, laid, place_at}
use Rattle.balloc_malloc.proofs.handing.copied.Given as goal

abbrev pub invariant-loop-i : goal.invariant-loop-i
invariant-loop-i l = record {
  at : l.words.at ≡ l.fn.to.words.at;
  first : l.words.first ≡ l.fn.to.words.first;
  long : length l.words.places ≡ length l.fn.to.words.places;
  here : AllHere l.words.places;
  done : (k : ℕ) → k < l.i → place_at l.words.places k ≡ laid (slice_index l.had k);
}
