-- You were given a block, or took one from a shelf: it is none that you had, its words are home, and they are enough.
pub use Rattle.live_heap.proofs.LawsKept.{given-home, got-home}
pub use Rattle.live_heap.proofs.WholeLaws.{pass-apart, pass-hands, pass-serves}
pub use Rattle.live_heap.proofs.Enough.{given-enough}
