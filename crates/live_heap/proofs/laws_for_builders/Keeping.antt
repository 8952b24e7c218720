-- You own a block, and the pass makes a call that isn't about it: you own it still, and its words are where they were.
pub use Rattle.live_heap.proofs.LawsKept.{called-keeps, stays-home}
pub use Rattle.live_heap.proofs.WholeLaws.{whole-keeps}
