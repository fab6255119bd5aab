pub mod Accepted
pub mod Examples
pub mod Fits
pub mod Fixed
pub mod Runs
pub mod Tiled
pub mod Unique
