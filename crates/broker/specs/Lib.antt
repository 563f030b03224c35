pub mod Drafts
pub mod Held
pub mod View
pub mod Calls
pub mod Steps
pub mod Bundles
pub mod Holds
pub mod Asks
