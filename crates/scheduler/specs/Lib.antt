pub mod Slots
pub mod Search
pub mod Rows
pub mod Writing
pub mod Promise
