pub mod ActiveLemmas
pub mod AnchorLemmas
pub mod ExactLemmas
pub mod FieldsLemmas
pub mod HeadLemmas
pub mod InfoLemmas
pub mod PrefixLemmas
pub mod ShelfLemmas
