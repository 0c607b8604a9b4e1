pub mod Works
pub mod Steps
pub mod Needs
pub mod Machine
pub mod Leaving
pub mod Sweeping
pub mod Reading
pub mod Pace
