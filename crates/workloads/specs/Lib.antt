pub mod Draws
pub mod Held
pub mod Lanes
pub mod Made
