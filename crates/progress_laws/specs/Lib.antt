pub mod Possible
pub mod Over
