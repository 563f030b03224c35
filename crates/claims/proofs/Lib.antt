pub mod Books
pub mod Ranges
pub mod Ranks
