pub mod First
pub mod Found
pub mod Victims
pub mod Sets
