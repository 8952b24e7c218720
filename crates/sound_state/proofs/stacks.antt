pub mod StackEffects
pub mod StackFacts
pub mod StackRetires
pub mod StackShifts
pub mod StackSteps
