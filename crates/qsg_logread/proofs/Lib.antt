pub mod Cut
pub mod Feeds
pub mod Joined
pub mod Known
pub mod Noted
pub mod Pages
pub mod Runs
pub mod Walk
