pub mod Seats
pub mod Ids
pub mod Names
pub mod Faults
