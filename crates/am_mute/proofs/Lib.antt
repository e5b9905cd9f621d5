-- a silence that asks for a label mutes only label sets that have it, so it is found by one of their labels
mod RequiredLabels
-- a walk over the keys of one bucket: what the first source among their alerts says of all known alerts
mod BucketWalk
-- the keys of one bucket of an index: each source for a target has its own among them
mod Buckets
-- lists of causes, as loops make them
mod CauseLists
-- the first silence that mutes, by walks over indexes
mod FirstSilences
-- the first that passes a test is there exactly where one passes
pub mod Firsts
-- what was found for a target is what the rule finds
mod FoundSources
-- an index that learns of alerts, by one rule after the other
mod Learning
-- the places of silences, by their ids
mod NotedPlaces
-- the indexes of silences
mod PlacedSilences
-- keys of sources: their order, and what an index has after one more
mod SourceKeys
