pub mod Kept
pub mod Writers
pub mod Held
pub mod Reading
pub mod Cuts
