pub mod Noted
pub mod Noting
pub mod Numbered
