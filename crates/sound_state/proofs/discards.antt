pub mod DiscardEffects
pub mod DiscardFacts
pub mod DiscardKeeps
pub mod DiscardRecalls
pub mod DiscardSteps
pub mod DiscardTies
