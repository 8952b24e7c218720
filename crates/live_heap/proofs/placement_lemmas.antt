pub mod PlaceLemmas
pub mod WordsLemmas
pub mod KindLemmas
