pub mod Sequences
pub mod CoreRuns
pub mod Reads
pub mod Deliveries
pub mod Numbers
