use Rattle.std.proofs.Common.{ℕ, ◌≡◌, ◌<◌, false}
use Rattle.balloc_c.specs.Kept.{is_out}
use Rattle.balloc_c.specs.Slots.{block_at}
use Rattle.balloc_c.proofs.calls.are_home.Given as goal

abbrev pub invariant-loop-index : goal.invariant-loop-index
invariant-loop-index l = record {
  home : (k : ℕ) → k < l.index → is_out (block_at l.table.slots.items k) ≡ false;
}
