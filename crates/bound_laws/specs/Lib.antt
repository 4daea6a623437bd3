pub mod Measure
pub mod Sweeps
pub mod EveryRun
