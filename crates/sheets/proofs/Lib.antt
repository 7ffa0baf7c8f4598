pub mod Fronts
pub mod JobRecords
pub mod OneCause
pub mod OneReading
pub mod Records
pub mod Steps
pub mod Whole
