pub mod Numbers
pub mod Words
pub mod Weights
pub mod Commands
pub mod Settings
pub mod Texts
pub mod Answers
