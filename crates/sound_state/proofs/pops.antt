pub mod PopChains
pub mod PopEffects
pub mod PopFacts
pub mod PopKept
pub mod PopRecalls
pub mod PopSteps
pub mod PopTies
pub mod PopTurns
