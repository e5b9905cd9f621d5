-- which flushes come in a span of firing, and what kept an integration from being notified at one
pub mod Causes
