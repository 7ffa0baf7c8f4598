pub mod Numerals
pub mod Cuts
pub mod Masks
pub mod Runs
pub mod Printing
pub mod Ahead
