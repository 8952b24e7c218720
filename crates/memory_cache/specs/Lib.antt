pub mod Asking
pub mod Caches
pub mod Chains
pub mod Paged
pub mod Pages
pub mod Rooms
pub mod Settled
pub mod Sizes
