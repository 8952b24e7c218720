use Rattle.std.proofs.Common.{ℕ, ◌≡◌, ◌<◌, slice_index}
use Rattle.std.specs.Prelude.{slice_index_or}
use Rattle.live_heap.proofs.lending.copy_and_clear.Given as goal

abbrev pub invariant-loop-i : goal.invariant-loop-i
invariant-loop-i l = (k : ℕ) → k < l.i → slice_index l.to k ≡ slice_index_or l.from k 0
