pub mod Reserved
pub mod Page
pub mod Log
pub mod Writer
