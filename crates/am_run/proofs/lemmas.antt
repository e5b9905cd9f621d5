pub mod lanes
pub mod phases
pub mod sending
