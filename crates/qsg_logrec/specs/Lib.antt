pub mod Sets
pub mod Spelling
pub mod Reading
pub mod Decoding
pub mod Pages
pub mod PageReading
pub mod PageDecoding
pub mod Cutting
