pub mod AnchorFacts
pub mod AnchorFields
pub mod AnchorKept
pub mod AnchorRecalls
pub mod AnchorRests
pub mod AnchorSteps
pub mod NewSuperblocks
