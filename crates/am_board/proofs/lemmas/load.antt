pub mod Allowed
pub mod Ascending
pub mod Merging
