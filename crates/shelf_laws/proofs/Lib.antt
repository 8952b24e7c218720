pub mod GrowLemmas
pub mod TurnLemmas
pub mod OwnLemmas
pub mod PipeLemmas
pub mod InTurnLemmas
pub mod CallLemmas
