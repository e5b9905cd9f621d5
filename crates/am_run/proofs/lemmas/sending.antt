pub mod Sendings
pub mod Answered
pub mod Determined
