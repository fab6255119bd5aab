pub mod BandLaws
pub mod CodeLaws
pub mod FitLaws
pub mod Signed
pub mod Unique
pub mod Examples
