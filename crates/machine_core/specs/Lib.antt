pub mod Stations
pub mod Meetings
pub mod Machine
pub mod Slots
pub mod FinalWords
pub mod Counts
