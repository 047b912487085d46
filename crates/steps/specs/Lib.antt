pub mod Moves
pub mod Forks
