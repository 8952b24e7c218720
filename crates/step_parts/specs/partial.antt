pub mod Grants
pub mod Points
