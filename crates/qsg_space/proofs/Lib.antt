pub mod Marking
pub mod Finding
pub mod Free
