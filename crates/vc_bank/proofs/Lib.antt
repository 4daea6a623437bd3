pub mod FreeSlots
pub mod SlotWrites
pub mod Weights
pub mod PlaceLaws
pub mod PacketCounts
pub mod BankReads
