pub mod State
pub mod Laws
pub mod Changes
pub mod Works
