pub mod Sets
pub mod Refusals
pub mod Machine
pub mod Tables
pub mod Idling
