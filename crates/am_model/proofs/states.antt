pub mod Alike
pub mod InOrder
