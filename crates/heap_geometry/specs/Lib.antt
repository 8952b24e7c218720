pub mod Geometry
pub mod Need
pub mod Place
