pub mod Counted
pub mod Gathered
pub mod Places
pub mod Shares
