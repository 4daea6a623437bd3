pub mod OpenGets
pub mod HomeParts
pub mod Reachable
pub mod UnitCalls
pub mod OwnerGets
