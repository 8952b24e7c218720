pub mod Anchors
pub mod Chains
pub mod Points
