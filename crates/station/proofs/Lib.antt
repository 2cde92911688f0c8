pub mod Finds
pub mod Bits
pub mod Lowest
