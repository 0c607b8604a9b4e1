pub mod Dues
pub mod Runs
