pub mod PointLemmas
pub mod LowestLemmas
pub mod UnitLemmas
