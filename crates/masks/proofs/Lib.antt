pub mod Bits
pub mod Gather
