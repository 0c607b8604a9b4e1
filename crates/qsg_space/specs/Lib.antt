pub mod Spaces
pub mod Refusals
