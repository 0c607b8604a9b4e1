pub mod Byte
pub mod Places
