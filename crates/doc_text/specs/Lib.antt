pub mod Canonical
pub mod Doc
pub mod Keys
pub mod Limits
pub mod Rows
pub mod Messages
