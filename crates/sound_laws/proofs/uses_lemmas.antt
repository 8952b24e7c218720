pub mod InUse
pub mod Leaving
pub mod Opened
pub mod Opening
pub mod PieceLemmas
