pub mod Checking
pub mod Messages
pub mod Works
pub mod Steps
pub mod Needs
pub mod Outcomes
