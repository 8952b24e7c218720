pub mod CachedHands
pub mod DriverLemmas
