pub mod Answered
pub mod Check
pub mod Kept
pub mod Report
pub mod Shared
pub mod Totals
pub mod Words
