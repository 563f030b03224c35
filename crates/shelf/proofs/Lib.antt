pub mod Every
pub mod Shelving
