pub mod Owned
pub mod Region
