pub mod Places
pub mod RowLaws
pub mod SoundLaws
pub mod Verdicts
pub mod Parts
pub mod Unique
pub mod Corollaries
