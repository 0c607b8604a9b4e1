pub mod Returned
pub mod Made
pub mod Stopped
pub mod Paired
