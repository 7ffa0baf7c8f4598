pub mod Bounds
pub mod Faults
pub mod Masks
pub mod Places
