pub mod BegunLemmas
pub mod FirstLemmas
pub mod InstalledLemmas
pub mod OpeningLemmas
pub mod OpeningLists
