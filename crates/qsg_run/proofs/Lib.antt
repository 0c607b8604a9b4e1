pub mod Back
pub mod Due
pub mod Exact
pub mod Paces
pub mod Pieces
pub mod Pushing
pub mod Reporting
