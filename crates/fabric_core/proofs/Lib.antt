pub mod Inside
pub mod Orders
pub mod Channels
pub mod Entries
pub mod Kept
pub mod Steps
pub mod Idle
pub mod VacantRouters
