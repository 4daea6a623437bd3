pub mod EnabledEvents
pub mod QuietStates
pub mod AnsweredGets
pub mod IdleUnits
pub mod NeverStuck
pub mod FinishedStates
pub mod Stops
pub mod EnabledSlots
