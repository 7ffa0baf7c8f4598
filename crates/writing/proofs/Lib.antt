pub mod Jobs
pub mod Puts
pub mod Readings
pub mod Sheets
pub mod Tables
