pub mod Accounts
pub mod Caches
pub mod Flushes
pub mod Hidden
pub mod Magazines
pub mod Whole
