pub mod Command
pub mod Input
pub mod Output
pub mod Statuses
pub mod Tallies
pub mod Summaries
