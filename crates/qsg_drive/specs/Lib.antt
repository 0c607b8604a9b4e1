pub mod Paces
pub mod Quiet
pub mod Runs
pub mod Tries
pub mod Turns
