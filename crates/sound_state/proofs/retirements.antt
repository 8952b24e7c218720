pub mod RetireLemmas
pub mod RetirePartials
