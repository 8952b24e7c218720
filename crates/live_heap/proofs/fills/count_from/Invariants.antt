use Rattle.std.proofs.Common.{ℕ, ◌≡◌, ◌<◌, ◌+◌, ◌%◌, ◌^◌, slice_index}
use Rattle.live_heap.proofs.fills.count_from.Given as goal

abbrev pub invariant-loop-i : goal.invariant-loop-i
invariant-loop-i l = (k : ℕ) → k < l.i → slice_index l.words k ≡ (l.from + k) % 2 ^ 64
