pub mod Statuses
pub mod Lives
pub mod Tables
pub mod Calls
pub mod Keeping
