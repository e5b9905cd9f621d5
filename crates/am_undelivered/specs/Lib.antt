-- label sets among others
pub mod Sets
-- the spans of firing of the alerts of a rehearsal, and what its flushes came to for each integration
pub mod Spans
-- the spans that an integration wasn't notified of, or of whose end, and why
pub mod Undelivered
