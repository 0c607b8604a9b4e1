pub mod Finding
pub mod Needs
pub mod Steps
pub mod Leaving
pub mod Forgetting
pub mod Pace
pub mod Machine
pub mod Ground
