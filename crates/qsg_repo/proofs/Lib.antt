pub mod Least
pub mod Rows
pub mod Needed
pub mod Falling
