pub mod Start
pub mod Stands
pub mod Workers
pub mod Seating
pub mod Rounded
