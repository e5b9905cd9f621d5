pub mod Carried
pub mod Faultless
pub mod FewNotified
pub mod GroupReceiver
pub mod Led
pub mod Receivers
pub mod Rekeyed
pub mod RouteKeys
