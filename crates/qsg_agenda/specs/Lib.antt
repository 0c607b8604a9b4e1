pub mod Courses
pub mod Parts
