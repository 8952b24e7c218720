pub mod HazardLemmas
pub mod HazardSteps
