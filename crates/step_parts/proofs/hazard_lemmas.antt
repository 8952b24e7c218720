pub mod PointLemmas
pub mod PickLemmas
pub mod RemoveLemmas
