pub mod Points
pub mod Retired
