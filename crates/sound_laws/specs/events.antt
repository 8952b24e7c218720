pub mod Calls
pub mod Ends
pub mod Stages
pub mod UnderWay
pub mod Made
