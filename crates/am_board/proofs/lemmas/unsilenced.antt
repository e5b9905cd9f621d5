pub mod Unsilencing
pub mod Muting
