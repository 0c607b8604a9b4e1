pub mod Answers
pub mod Labels
pub mod Texts
pub mod Waits
