pub mod TagPoints
pub mod TagRuns
pub mod TagSteps
