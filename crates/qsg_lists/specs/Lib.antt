pub mod Marks
pub mod Entries
pub mod Structures
pub mod Settling
pub mod Writing
pub mod Taking
pub mod Recovering
pub mod Found
