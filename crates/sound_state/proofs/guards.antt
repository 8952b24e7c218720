pub mod AvailPoints
pub mod AvailSteps
pub mod GuardNexts
pub mod GuardRuns
pub mod GuardSettles
pub mod GuardSteps
