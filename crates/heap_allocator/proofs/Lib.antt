pub mod Cell
pub mod DeskLemmas
pub mod Handing
pub mod Resizing
pub mod Rooms
pub mod Values
pub mod Walks
