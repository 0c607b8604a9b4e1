pub mod Options
pub mod Steps
pub mod Named
pub mod FirstFault
pub mod Keys
pub mod OneOfTwo
