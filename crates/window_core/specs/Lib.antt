pub mod Windows
pub mod WindowSteps
