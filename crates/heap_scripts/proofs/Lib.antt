pub mod SteppedLemmas
pub mod stores_lemmas
