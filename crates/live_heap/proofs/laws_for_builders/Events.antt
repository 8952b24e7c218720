-- You count or compare events: the list that a pass has seen only grows, and the history of a closed heap is legal.
pub use Rattle.live_heap.proofs.LawsKept.{called-grows}
pub use Rattle.live_heap.proofs.LawsClosed.{closed-legal}
pub use Rattle.live_heap.proofs.Growing.{own-kept as own-of_one, rest-none as rest-of_others}
