pub mod Course
pub mod Views
