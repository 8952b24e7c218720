pub mod Roomy
pub mod Serial
pub mod Through
