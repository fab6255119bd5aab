pub mod Table
pub mod Params
pub mod Clauses
pub mod Excite
pub mod Ranges
pub mod Channel
pub mod Lives
pub mod Answers
