pub mod Order
pub mod Tracker
pub mod FirstFrom
