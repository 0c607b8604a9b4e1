pub mod Keywords
pub mod Values
pub mod Faults
pub mod Definitions
pub mod Reading
pub mod Laws
pub mod Ranges
