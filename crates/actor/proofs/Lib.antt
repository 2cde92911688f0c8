pub mod Performed
pub mod Steps
