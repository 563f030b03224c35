pub mod Limits
pub mod Rooms
pub mod TeePlaces
pub mod Matching
pub mod Paths
pub mod Ways
