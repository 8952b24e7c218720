pub mod Closings
pub mod Answers
pub mod Censuses
pub mod Runs
pub mod Pipes
pub mod Stored
pub mod Ended
