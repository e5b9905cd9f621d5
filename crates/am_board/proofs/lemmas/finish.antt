pub mod Finished
pub mod Flushes
pub mod LeavingAlerts
pub mod LoggedRows
pub mod Logging
pub mod TakenOut
