pub mod Answers
pub mod State
pub mod Calls
pub mod Runs
pub mod Settling
pub mod Lists
