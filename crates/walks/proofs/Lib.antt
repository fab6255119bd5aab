pub mod Laws
pub mod Counting
pub mod Passing
pub mod Conservation
pub mod Examples
pub mod Unique
