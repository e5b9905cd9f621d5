-- the bytes that go through a device, by its answers
pub mod Bytes
-- what the JSON value of a configuration decodes to, a line for each field
pub mod Configured
-- the faults of an input: how they add up, and which end the reading
pub mod Faults
-- matchers that are written as one text
pub mod MatcherText
-- what a reader is at, and how it refuses
pub mod Read
-- a route, from what is read of it
pub mod Routed
-- matchers of Alertmanager's texts, whose patterns are Go's
pub mod Translated
-- what JSON values decode to: texts, numbers, answers, lists, and fields with their defaults
pub mod Decoding
