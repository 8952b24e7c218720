pub mod ActionLemmas
pub mod CountLemmas
pub mod GroupLemmas
pub mod NameLemmas
pub mod SeatLemmas
pub mod StartLemmas
pub mod TableLemmas
pub mod WordLemmas
