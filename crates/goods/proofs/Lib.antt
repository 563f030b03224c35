pub mod Naming
pub mod Pooling
