pub mod Waits
pub mod Owners
