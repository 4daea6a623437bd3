pub mod Befores
pub mod SameSums
pub mod Sequenced
pub mod Restored
