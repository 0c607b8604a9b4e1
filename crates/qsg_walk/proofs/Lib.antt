pub mod Feeding
pub mod Gates
pub mod Reading
pub mod Walking
