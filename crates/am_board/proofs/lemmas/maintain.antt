pub mod Maintenance
pub mod Deserted
pub mod Empties
