pub mod Limits
pub mod Causes
pub mod Book
pub mod Places
pub mod Units
pub mod Rules
pub mod Held
