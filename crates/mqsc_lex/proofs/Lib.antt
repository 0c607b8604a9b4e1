pub mod Cuts
pub mod Quoted
pub mod Extend
pub mod Unique
pub mod Inside
pub mod Leftmost
