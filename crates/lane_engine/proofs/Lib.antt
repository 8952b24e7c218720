mod FlushLemmas
pub mod KeptLemmas
pub mod LeadsLemmas
pub mod StepLemmas
pub mod ThroughLemmas
