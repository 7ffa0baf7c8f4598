pub mod Jobs
pub mod Runs
pub mod Alone
