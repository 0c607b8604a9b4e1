pub mod Splits
pub mod Signs
pub mod Texts
pub mod Apart
