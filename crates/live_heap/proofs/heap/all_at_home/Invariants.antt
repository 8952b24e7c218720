use Rattle.std.proofs.Common.{ℕ, ◌≢◌, ◌<◌}
use Rattle.plain_words.specs.Places.{laid, place_at}
use Rattle.live_heap.specs.Pieces.{mark_place}
use Rattle.live_heap.proofs.heap.all_at_home.Given as goal

abbrev pub invariant-loop-mark : goal.invariant-loop-mark
invariant-loop-mark g l = (k : ℕ) → k < l.mark → place_at l.closed.plain.places (mark_place l.layout k) ≢ laid 1
