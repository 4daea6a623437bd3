pub mod Load
pub mod Rows
