pub mod Rounds
pub mod Priorities
pub mod Words
pub mod Fronts
pub mod Sequence
