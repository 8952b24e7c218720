pub mod EndLemmas
pub mod Gathering
pub mod HeldNotes
pub mod NoteMoves
pub mod TurnLemmas
