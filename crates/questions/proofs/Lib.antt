pub mod Ranks
pub mod Tallies
pub mod Widening
