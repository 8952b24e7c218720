pub mod AllBlocks
pub mod Changing
pub mod Events
pub mod Giving
pub mod Hands
pub mod Keeping
pub mod Memory
pub mod Words
