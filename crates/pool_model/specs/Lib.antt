pub mod Histories
pub mod Pool
pub mod Legal
pub mod Calls
pub mod WellFormed
pub mod Counts
pub mod Owned
pub mod Parcels
