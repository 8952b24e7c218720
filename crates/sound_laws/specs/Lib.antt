pub mod bounds
pub mod events
pub mod uses
