pub mod ForwardPrograms
pub mod SweptSlots
pub mod AnsweredSweeps
pub mod JoinedSweeps
pub mod TilePlaces
