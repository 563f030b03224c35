pub mod Bundles
pub mod Entries
pub mod Keeping
pub mod Reaching
