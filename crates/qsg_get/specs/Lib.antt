pub mod Checking
pub mod Works
pub mod Steps
pub mod Needs
pub mod Moves
pub mod Answers
