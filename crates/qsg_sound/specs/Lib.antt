pub mod Founding
pub mod Sound
pub mod Systems
pub mod Tallying
