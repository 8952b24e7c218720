pub mod EndCalls
pub mod Messages
pub mod Moves
pub mod Receivers
pub mod Runs
pub mod Senders
