pub mod Answers
pub mod Ends
pub mod Logs
pub mod Notes
