pub mod Leaving
pub mod Forgetting
pub mod Pace
pub mod Changing
pub mod Grounds
pub mod Found
