pub mod Flushing
pub mod Forgotten
pub mod Grouped
pub mod KeptNames
