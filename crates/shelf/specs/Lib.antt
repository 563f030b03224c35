pub mod Shelves
pub mod Asked
