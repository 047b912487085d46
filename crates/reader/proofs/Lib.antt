pub mod SetLaws
pub mod Verdicts
pub mod Unique
pub mod Corollaries
