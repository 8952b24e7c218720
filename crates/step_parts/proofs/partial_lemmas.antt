pub mod PointLemmas
pub mod GrantLemmas
