pub mod Ranks
pub mod Rows
pub mod Tables
pub mod Plans
pub mod Refusing
pub mod Filling
pub mod Loading
