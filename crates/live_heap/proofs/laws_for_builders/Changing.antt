-- You want to know what a call has made of all that its caller owns, words and all, and what a heap that was closed at rest has of it.
pub use Rattle.live_heap.proofs.Changes.{called-changes, calling-changes, closed-owned, whole-changes}
