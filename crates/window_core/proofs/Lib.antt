pub mod Holds
pub mod Kept
pub mod Sound
pub mod Steps
