pub mod DescPushes
pub mod DescRecalls
pub mod DescSteps
pub mod DescWeighs
