pub mod Actions
pub mod Counts
pub mod Occurs
pub mod Onwards
pub mod Seats
pub mod Sites
pub mod Table
pub mod Words
