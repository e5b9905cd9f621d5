pub mod Entry
pub mod Interval
pub mod Laws
pub mod Preview
pub mod Past
pub mod Presence
pub mod Reasons
