pub mod Log
pub mod Post
pub mod Store
pub mod Actors
pub mod Acting
