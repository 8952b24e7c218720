pub mod DrawLemmas
pub mod LaneLemmas
pub mod FreedLemmas
pub mod HeldLemmas
pub mod TraceLemmas
pub mod MadeLemmas
