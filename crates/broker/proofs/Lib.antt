pub mod Consistency
mod Firsts
mod Turns
mod Places
mod Lifts
mod Bundling
mod Drawing
mod Reading
mod Granting
mod Ending
mod Taking
