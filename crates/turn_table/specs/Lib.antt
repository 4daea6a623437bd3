pub mod Notes
pub mod Rule
pub mod Steps
pub mod States
pub mod Places
pub mod Tries
pub mod Turn
pub mod Meeting
