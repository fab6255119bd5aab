pub mod Probe
pub mod Table
