pub mod Splitting
pub mod Commits
pub mod Pages
pub mod Own
pub mod Others
pub mod Agreeing
