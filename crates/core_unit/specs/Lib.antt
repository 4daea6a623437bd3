pub mod Works
pub mod Counts
pub mod InOrderCounts
