pub mod Asking
pub mod States
pub mod Ends
pub mod Reading
pub mod Waiting
pub mod Steps
pub mod Needs
