pub mod Views
pub mod Needs
pub mod Hands
pub mod Starts
pub mod Ends
pub mod Kept
