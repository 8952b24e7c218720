pub mod Moves
pub mod Names
pub mod Sent
pub mod Shown
pub mod Words
