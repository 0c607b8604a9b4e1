pub mod Peers
pub mod Rooms
