pub mod Cases
pub mod Lives
pub mod ParamLaws
pub mod RangeLaws
pub mod TableLaws
pub mod Turns
pub mod Unique
