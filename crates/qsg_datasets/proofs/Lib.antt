pub mod Maps
pub mod Rows
pub mod Lookups
pub mod Used
