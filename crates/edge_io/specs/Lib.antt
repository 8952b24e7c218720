pub mod Calls
pub mod Faults
pub mod Memory
pub mod Real
pub mod Source
