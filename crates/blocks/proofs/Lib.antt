pub mod Cases
pub mod Turns
pub mod Held
pub mod SideLaws
pub mod Tiled
pub mod Order
pub mod Unique
