pub mod Steps
pub mod Needs
pub mod Leaving
pub mod Grounds
pub mod Fitting
pub mod Gates
pub mod Pace
