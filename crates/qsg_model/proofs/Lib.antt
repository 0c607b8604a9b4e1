pub mod Longer
pub mod Differing
pub mod Growing
pub mod Keyed
pub mod Past
pub mod Listed
pub mod Filling
