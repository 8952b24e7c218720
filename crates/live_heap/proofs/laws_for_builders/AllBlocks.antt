-- You keep your blocks in a list, and want that it has every block that the pass owns: none is lost, and none counted twice.
pub use Rattle.live_heap.proofs.Exact.{called-exact, calling-exact, fresh-exact, order-exact, whole-exact}
