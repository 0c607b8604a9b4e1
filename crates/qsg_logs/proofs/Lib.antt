pub mod Within
pub mod Columns
pub mod Owners
pub mod Holding
pub mod Found
pub mod Cuts
