pub mod Plans
pub mod Starting
pub mod Actors
pub mod Kept
