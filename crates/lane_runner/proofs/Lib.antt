pub mod CacheRuns
pub mod CallLemmas
pub mod ClosedFits
pub mod ClosedLemmas
pub mod DrivenLemmas
pub mod Numbered
pub mod OrderLemmas
pub mod PairLemmas
pub mod PassLemmas
pub mod Places
mod PlainRuns
pub mod RunLanes
pub mod RunLemmas
pub mod RunMeasures
pub mod ThreadLemmas
mod WholeScripts
