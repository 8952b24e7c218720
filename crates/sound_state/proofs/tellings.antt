pub mod ConfirmLemmas
pub mod ConfirmSteps
pub mod LookLemmas
pub mod TellLemmas
