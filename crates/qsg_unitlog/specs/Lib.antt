pub mod Units
pub mod Tells
pub mod Sets
