pub mod Semicolon
pub mod Bodies
pub mod Unique
pub mod Keys
