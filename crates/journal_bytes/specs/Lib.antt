pub mod Layout
pub mod Changes
pub mod Opening
pub mod Laws
pub mod Sizes
pub mod Example
pub mod Found
pub mod Journals
