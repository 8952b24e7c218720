pub mod CacheLemmas
pub mod HandLemmas
pub mod MadeLemmas
pub mod PassLemmas
pub mod PieceLemmas
