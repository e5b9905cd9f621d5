pub mod AlertsShown
pub mod FoundAlerts
pub mod SameAlerts
pub mod Refiring
pub mod FoundSteps
pub mod AlertSets
