pub mod Spelling
pub mod Bits
pub mod Blocks
pub mod Saving
pub mod Filling
