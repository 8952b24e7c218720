pub mod KeptLemmas
pub mod VisitLemmas
pub mod PlacesLemmas
pub mod ChosenLemmas
pub mod RefusalLemmas
pub mod AnswerLemmas
