pub mod Pieces
pub mod Uses
