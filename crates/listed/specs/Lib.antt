pub mod Lists
pub mod Views
pub mod Sends
pub mod Lawful
