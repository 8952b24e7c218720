pub mod Census
pub mod Tallies
