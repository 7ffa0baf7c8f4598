pub mod Draw
pub mod Slots
pub mod Walk
pub mod Trial
pub mod Seats
