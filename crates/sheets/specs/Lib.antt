pub mod Faults
pub mod Format
pub mod Fronts
pub mod Kinds
pub mod Reading
pub mod Steps
pub mod Tags
