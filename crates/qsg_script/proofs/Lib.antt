pub mod Taken
pub mod Once
pub mod Texts
pub mod Order
