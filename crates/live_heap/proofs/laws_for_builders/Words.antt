-- You wrote a word, and want to read it back later.
pub use Rattle.live_heap.proofs.WordsKept.{called-word as called-keeps_word, read-word, wrote-word}
