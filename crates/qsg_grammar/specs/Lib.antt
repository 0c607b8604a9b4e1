pub mod Table
pub mod Texts
pub mod Starting
pub mod Values
pub mod Faults
pub mod Whys
pub mod Laws
