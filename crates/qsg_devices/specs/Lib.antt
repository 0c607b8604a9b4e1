pub mod Shapes
pub mod Logs
pub mod DataSets
pub mod Places
