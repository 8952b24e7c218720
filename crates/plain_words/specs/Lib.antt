pub mod Lends
pub mod Owned
pub mod Places
