pub mod Serve
pub mod Trail
