pub mod Walks
pub mod Following
