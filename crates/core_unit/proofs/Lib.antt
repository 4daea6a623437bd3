pub mod Works
pub mod Running
pub mod NextKinds
