-- You took a block's words out as plain memory: the block is still yours, and you want to know where its words lie.
pub use Rattle.live_heap.proofs.Begun.{heap-at as owned-in_heap}
pub use Rattle.live_heap.proofs.Straight.{payload-odd}
pub use Rattle.live_heap.proofs.Taking.{numbers-laids, taken-owned}
