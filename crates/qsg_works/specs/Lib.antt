pub mod Steps
pub mod InHand
