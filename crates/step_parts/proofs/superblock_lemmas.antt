pub mod ChainLemmas
pub mod PointLemmas
