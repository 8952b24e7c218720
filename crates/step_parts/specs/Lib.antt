pub mod hazard
pub mod large
pub mod partial
pub mod stack
pub mod superblock
