pub mod AskedFor
pub mod Concerned
pub mod GivenAway
pub mod KeptStages
pub mod OtherOwners
pub mod OwnWords
