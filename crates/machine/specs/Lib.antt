pub mod Limits
pub mod Refusals
pub mod Slots
pub mod Machine
pub mod Entries
pub mod Reached
