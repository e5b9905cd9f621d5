-- texts and label sets without characters that a terminal would take as a command
pub mod Shown
-- what Alertmanager calls an integration of a receiver
pub mod IntegrationName
-- what gave the log its entry of a group and an integration last
pub mod LastEntry
-- when the entry of the log expired for whose lack a notice is a first one
pub mod Expiry
-- what is kept of a history while its expired entries are found
pub mod Log
-- a table of the entries that expired before flushes
pub mod Entries
-- where the flushes of a history are finished
pub mod Finishes
-- a rehearsal that ran, and the notices that were sent in it
pub mod Playback
-- what happened in a rehearsal, a line for each event
pub mod Timeline
-- begins at which the entry of an integration is exactly as old as `repeat_interval`
pub mod Edges
-- the timeline as JSON, an object on each line
pub mod Json
-- previews of two flushes of which the timeline has the same lines, save for their times
pub mod Alike
-- flushes of one group that follow each other, send nothing and have the same lines
pub mod Runs
-- the lines of the timeline on notices alone, with those that failed or without
pub mod Notices
-- the notices that a rehearsal delivered, and when two rehearsals delivered the same
pub mod Comparison
-- what each receiver got, a line for each
pub mod Table
-- what a receiver got by some events
pub mod Tally
-- the events of a rehearsal that concern a receiver, a route or some alerts
pub mod Filtered
-- the events of a rehearsal, without the flushes that say the same as the flush before of their group
pub mod Changed
-- texts as content of XML and HTML elements
pub mod Escaped
-- texts that were computed by hand
pub mod Rows
