pub mod PointLemmas
pub mod StackLemmas
