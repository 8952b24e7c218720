pub mod Embedded
pub mod Pipes
pub mod Relay
pub mod Reuse
pub mod collections
