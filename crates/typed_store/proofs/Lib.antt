pub mod CountLemmas
pub mod LedLemmas
pub mod LinkLemmas
pub mod PassLemmas
pub mod SlotLemmas
pub mod WalkLemmas
pub mod StayLemmas
pub mod StoreLemmas
pub mod RelinkLemmas
pub mod AskLemmas
pub mod UnlinkLemmas
pub mod PopLemmas
pub mod ResumeLemmas
pub mod ReadLemmas
pub mod RecordLemmas
pub mod OnListLemmas
mod SliceLemmas
