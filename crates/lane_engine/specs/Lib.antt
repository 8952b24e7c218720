pub mod Begins
pub mod Caches
pub mod Callers
pub mod Engines
pub mod Machines
pub mod Told
pub mod Whole
