pub mod Plain
pub mod Answers
pub mod Stored
pub mod Search
