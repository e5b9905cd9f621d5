pub mod BeginIntervals
pub mod FlushesOnce
pub mod Opened
