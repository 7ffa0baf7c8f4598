pub mod Fault
pub mod Kind
pub mod Picking
pub mod Ranking
