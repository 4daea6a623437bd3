pub mod Sweeps
pub mod Broadcasts
pub mod Delivered
pub mod Settled
pub mod Whole
