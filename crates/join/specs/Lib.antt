pub mod Together
pub mod Parts
