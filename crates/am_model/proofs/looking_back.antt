pub mod Forgetting
pub mod LooksBack
pub mod PastWords
pub mod Pasts
pub mod alerts
pub mod flushes
pub mod reasons
pub mod rows
