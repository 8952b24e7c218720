pub mod Closings
pub mod Counts
pub mod Ends
pub mod Scripts
pub mod Texts
