pub mod Ending
pub mod Following
pub mod Leaving
pub mod Making
pub mod Needing
pub mod Pacing
