pub mod Runs
pub mod TurnLists
pub mod TurnFrames
pub mod RoundCounts
pub mod RoundRuns
