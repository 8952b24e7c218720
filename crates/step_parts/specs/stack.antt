pub mod Piles
pub mod Points
pub mod Stacks
