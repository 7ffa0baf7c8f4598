pub mod Bits
pub mod Meanings
pub mod Opens
