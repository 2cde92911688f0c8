pub mod Lists
pub mod Values
pub mod Played
pub mod Writes
pub mod Outcomes
pub mod Marked
