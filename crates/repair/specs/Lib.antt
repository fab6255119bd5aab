pub mod Basis
pub mod Mended
pub mod Repair
