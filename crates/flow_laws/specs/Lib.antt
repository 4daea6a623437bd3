pub mod NetworkMoves
pub mod MessageMoves
