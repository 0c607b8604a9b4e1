pub mod Contents
pub mod Lookups
pub mod Sizes
pub mod Additions
pub mod Plans
pub mod Sections
pub mod Order
