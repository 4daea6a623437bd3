pub mod Growth
pub mod Phases
pub mod Unions
pub mod Wholes
