pub mod Options
pub mod Names
pub mod FirstFault
pub mod Keys
pub mod Defaults
pub mod Ranges
