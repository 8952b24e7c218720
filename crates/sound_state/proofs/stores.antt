pub mod InfoPlaces
pub mod InfoSteps
pub mod LoosePlaces
pub mod PrefixSteps
pub mod StoreFields
pub mod StoreReads
pub mod StoreSteps
