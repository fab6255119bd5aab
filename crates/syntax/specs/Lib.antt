pub mod Elements
pub mod Names
pub mod Reads
pub mod Cursors
pub mod Tiling
