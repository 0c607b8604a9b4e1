pub mod Fits
pub mod Outcomes
pub mod Requests
