pub mod ShiftEffects
pub mod ShiftFacts
pub mod ShiftKept
pub mod ShiftRecalls
pub mod ShiftSteps
pub mod ShiftTurns
