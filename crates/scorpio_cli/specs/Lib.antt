pub mod Ended
pub mod Messages
pub mod Top
