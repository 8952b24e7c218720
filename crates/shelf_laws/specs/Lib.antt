pub mod Quiet
pub mod Turns
