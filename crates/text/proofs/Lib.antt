pub mod WriteLaws
pub mod Digits
