pub mod Feeding
pub mod Fed
pub mod Joining
pub mod Logs
pub mod Records
pub mod Table
