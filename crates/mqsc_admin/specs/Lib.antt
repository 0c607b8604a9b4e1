pub mod Keywords
pub mod Values
pub mod Faults
pub mod Admins
pub mod Laws
