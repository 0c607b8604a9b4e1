pub mod Options
pub mod Steps
pub mod FirstFault
pub mod Quoted
pub mod Digits
