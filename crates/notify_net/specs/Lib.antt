pub mod Latches
pub mod Merge
pub mod Links
