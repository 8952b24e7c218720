pub mod CallLemmas
pub mod KeepLemmas
pub mod ScriptLemmas
pub mod WordLemmas
pub mod RoundLemmas
pub mod ClosedLemmas
