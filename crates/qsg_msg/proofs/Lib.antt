pub mod Passing
pub mod Forms
pub mod FieldForms
pub mod Messages
pub mod Decoded
