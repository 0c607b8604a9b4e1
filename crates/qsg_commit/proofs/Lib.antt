pub mod Runs
pub mod Writing
pub mod Finishing
pub mod Fitting
pub mod Serving
pub mod Stepping
