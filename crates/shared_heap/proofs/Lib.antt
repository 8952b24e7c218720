pub mod CountLemmas
pub mod EndLemmas
pub mod LeaveLemmas
pub mod OpenLemmas
pub mod OrderLemmas
pub mod PlaceLemmas
