pub mod Sides
pub mod stores
