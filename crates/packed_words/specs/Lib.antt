pub mod Active
pub mod Anchor
pub mod Fields
pub mod Head
pub mod Info
pub mod Prefix
pub mod Shelf
