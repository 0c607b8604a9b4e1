pub mod Rings
pub mod Totals
pub mod Laps
pub mod Steps
pub mod Cuts
pub mod Fields
pub mod Runs
pub mod Made
