pub mod Outside
pub mod Replays
pub mod Shows
pub mod Statuses
pub mod Texts
pub mod Top
