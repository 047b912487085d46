pub mod Verdicts
pub mod FileLaws
pub mod Corollaries
