pub mod Alone
pub mod Contention
pub mod Expectations
pub mod Installs
pub mod Made
pub mod StepsLeft
pub mod Wins
pub mod Won
