pub mod Lists
pub mod Turns
pub mod Held
pub mod Ways
pub mod Scale
pub mod Reached
pub mod Examples
pub mod Unique
