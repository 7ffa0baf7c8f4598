pub mod Picked
pub mod Ranked
