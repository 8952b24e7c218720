pub mod LeastLemmas
pub mod NeedLemmas
pub mod PlaceLemmas
