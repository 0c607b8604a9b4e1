pub mod Steady
pub mod Standing
pub mod Actions
pub mod Founding
