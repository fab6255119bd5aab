pub mod AnswerLaws
pub mod Examples
pub mod Laws
pub mod SameLaws
pub mod SetLaws
pub mod Unique
