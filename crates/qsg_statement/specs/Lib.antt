pub mod Texts
pub mod Words
pub mod Statements
pub mod Reading
pub mod Taking
