pub mod Insertion
pub mod Lines
