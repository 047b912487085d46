pub mod Graph
pub mod Steps
pub mod TableFile
pub mod Answers
pub mod Certain
pub mod Writer
pub mod Cases
pub mod Listing
