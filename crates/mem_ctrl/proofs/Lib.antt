pub mod Waiters
pub mod Steps
pub mod Opened
