pub mod Moving
pub mod Records
pub mod Answering
pub mod Onward
