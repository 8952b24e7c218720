pub mod AtMostLemmas
pub mod BareFrames
pub mod BareLemmas
pub mod BareWeights
pub mod FrameCounts
pub mod NearCounts
pub mod PartUsedLemmas
pub mod TellCounts
