use Rattle.std.proofs.Common.{ℕ, ◌≡◌, ◌<◌, ◌≤◌, None, length, take}
use Rattle.errand_steps.specs.Begins.{IsIdle}
use Rattle.balloc_c.specs.Closed.{FreesAll}
use Rattle.balloc_c.specs.Packed.{IsPacked}
use Rattle.balloc_c.specs.Slots.{block_at, blocks_of}
use Rattle.balloc_c.specs.Tended.{Tends}
use Rattle.balloc_c.proofs.calls.free_slots.Given as goal

abbrev pub invariant-loop-index : goal.invariant-loop-index
invariant-loop-index l = record {
  tends : Tends l.heap l.cache l.table.slots.items;
  packed : IsPacked l.table;
  idle : IsIdle l.cache.pass.errand;
  count : length l.table.slots.items ≡ length l.fn.table.slots.items;
  empty : (k : ℕ) → k < l.index → block_at l.table.slots.items k ≡ None;
  rest : (k : ℕ) → l.index ≤ k → block_at l.table.slots.items k ≡ block_at l.fn.table.slots.items k;
  freed : FreesAll l.fn.cache (blocks_of (take l.index l.fn.table.slots.items)) l.cache;
}
