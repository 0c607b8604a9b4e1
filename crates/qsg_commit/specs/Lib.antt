pub mod Works
pub mod Pending
pub mod Committing
pub mod Ending
pub mod Needs
pub mod Next
pub mod Machine
pub mod Fits
