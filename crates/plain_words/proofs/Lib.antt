pub mod Fills
pub mod Rows
pub mod Blocks
pub mod Runs
pub mod Made
pub mod Names
pub mod Sharing
pub mod Crosses
