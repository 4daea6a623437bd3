pub mod LastTile
pub mod Trials
