pub mod Driven
pub mod Orders
pub mod Passes
pub mod Running
pub mod Runs
pub mod Shared
pub mod Threads
