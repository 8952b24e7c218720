pub mod Accesses
pub mod Leaving
