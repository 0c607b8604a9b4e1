pub mod Tables
pub mod Group
pub mod Observers
pub mod Laws
pub mod Changes
pub mod Outcomes
