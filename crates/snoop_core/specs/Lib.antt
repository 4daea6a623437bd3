pub mod Requests
pub mod Outcomes
pub mod Nodes
pub mod ChipSides
pub mod Holdings
pub mod Plans
pub mod Lines
