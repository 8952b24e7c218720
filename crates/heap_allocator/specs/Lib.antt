pub mod Cells
pub mod Desks
pub mod Pieces
pub mod Served
