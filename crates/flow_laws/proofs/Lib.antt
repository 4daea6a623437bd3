pub mod Searches
pub mod ListSums
pub mod OwedRequests
pub mod RouterChannels
pub mod LeastPlace
pub mod NetworkMoves
pub mod MessageMoves
pub mod RequestSlots
