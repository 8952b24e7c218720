pub mod Causes
pub mod Links
pub mod Nodes
pub mod Passings
pub mod Records
pub mod Stores
pub mod Walks
