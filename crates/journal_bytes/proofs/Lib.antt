pub mod Counting
pub mod Putting
pub mod Sections
pub mod Changing
pub mod Accepting
pub mod Keeping
pub mod Ways
