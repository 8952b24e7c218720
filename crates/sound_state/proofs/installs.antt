pub mod InstallChains
pub mod InstallEffects
pub mod InstallFacts
pub mod InstallKept
pub mod InstallRecalls
pub mod InstallSteps
pub mod InstallTies
pub mod InstallTurns
