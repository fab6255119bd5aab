pub mod Fixed
pub mod Tail
pub mod Tiled
