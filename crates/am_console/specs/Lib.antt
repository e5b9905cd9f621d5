-- with which statuses a command ends that complains
pub mod Complaints
-- matchers that are written as texts
pub mod MatcherWords
-- what is read from a source
pub mod Source
