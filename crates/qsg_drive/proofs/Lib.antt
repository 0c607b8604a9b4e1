pub mod Stays
pub mod Trying
pub mod Rounds
pub mod Leading
pub mod Pacing
