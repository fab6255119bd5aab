pub mod Set
pub mod Reads
pub mod Turns
