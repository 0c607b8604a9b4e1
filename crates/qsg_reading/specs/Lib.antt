pub mod Knowing
pub mod Reading
