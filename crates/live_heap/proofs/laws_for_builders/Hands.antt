-- You carry some of a pass's blocks in a list, and go on owning them while the pass makes calls.
pub use Rattle.live_heap.proofs.Holding.{holds-all as hand-all, holds-in as hand-joined, holds-out as hand-left}
pub use Rattle.live_heap.proofs.Holding.{alloc-hand, ended-hand, free-hand, put-hand, take-hand, waiting-hand}
pub use Rattle.live_heap.proofs.Holding.{idle-free as idle-not_busy}
pub use Rattle.live_heap.proofs.CallsOne.{block-same}
