pub mod Outs
pub mod Sides
pub mod Sums
pub mod Openings
pub mod Wholes
pub mod Parts
pub mod Keeping
pub mod Facts
