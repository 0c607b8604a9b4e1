pub mod Bodies
pub mod Asking
