pub mod NarrowLemmas
pub mod LaneLemmas
pub mod RoomyLemmas
