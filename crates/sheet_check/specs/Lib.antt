pub mod Accounts
pub mod Ranks
