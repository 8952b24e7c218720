pub mod bounds_lemmas
pub mod events_lemmas
pub mod uses_lemmas
