pub mod Forward
pub mod Events
pub mod Sweeping
