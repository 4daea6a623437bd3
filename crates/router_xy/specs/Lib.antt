pub mod CopiesHold
pub mod RequestNetwork
pub mod LocalCopies
pub mod CopySteps
pub mod Wirings
pub mod Ways
