pub mod Table
pub mod Looks
