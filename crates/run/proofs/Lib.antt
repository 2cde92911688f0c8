pub mod Ready
pub mod Loads
pub mod Settles
