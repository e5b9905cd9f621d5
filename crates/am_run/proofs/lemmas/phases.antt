pub mod Phases
pub mod Turns
pub mod Steps
pub mod Noting
pub mod Parts
pub mod Stops
pub mod Stuck
