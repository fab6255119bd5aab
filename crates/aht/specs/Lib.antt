pub mod Aht
pub mod Tallies
