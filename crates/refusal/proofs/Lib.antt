pub mod Decides
pub mod Laws
pub mod TestLaws
pub mod Unique
