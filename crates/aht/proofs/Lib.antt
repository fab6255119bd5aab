pub mod Laws
pub mod Examples
pub mod Unique
