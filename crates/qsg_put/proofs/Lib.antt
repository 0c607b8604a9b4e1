pub mod Pages
pub mod Owning
pub mod Writes
pub mod Moves
pub mod Results
pub mod Ready
pub mod Names
