pub mod Sets
pub mod Leaving
pub mod Needing
pub mod Saving
pub mod Pace
pub mod Downing
pub mod Grounds
