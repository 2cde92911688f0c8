pub mod Limits
pub mod Sets
pub mod Messages
pub mod Moves
pub mod Coordinator
pub mod Subordinate
pub mod Acts
pub mod Recovery
