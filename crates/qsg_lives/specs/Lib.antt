pub mod Standing
pub mod Deciding
pub mod Marks
