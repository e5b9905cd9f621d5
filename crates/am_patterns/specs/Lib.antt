pub mod Growth
pub mod Simple
pub mod Translation
