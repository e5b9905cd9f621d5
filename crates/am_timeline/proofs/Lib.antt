-- positions of integrations by their names
pub mod Names
-- what is shown of a text from one of its characters on
pub mod Showing
-- escaped texts as content of elements
pub mod Content
-- what is escaped of a text from one of its characters on
pub mod Escaping
-- members of a JSON object that are put in one after another, and its values without floats
pub mod Members
-- the lines of remarks, with those of one more before them
pub mod RemarkLines
-- what is written of a JSON text from one of its characters on
pub mod Uncontrolled
-- a text to which two more are added, one after the other
pub mod Appended
-- the worked rows: the definitions, run on them
pub mod Rows
-- the first elements of a list, the last of them first
pub mod Reversed
-- begins at which the entry of an integration is exactly as old as `repeat_interval`
pub mod Edges
-- previews of two flushes that are alike have the same lines
pub mod Likeness
-- runs of like flushes, by a table of the last flush of each group
pub mod Folds
-- where runs begin, in order, and the run that begins at an index
pub mod Starts
-- the groups of the alerts that matchers match, found one alert and one route at a time
pub mod Filters
-- a filter that names nothing leaves all events
pub mod Unfiltered
-- what is kept of a history is what looking back finds in it
pub mod Logged
-- while the log has a row of a group and an integration, the last entry is that row's
pub mod LastEntries
-- a table of expired entries, with those of one more integration and of one more record
pub mod ExpiredTable
-- what a receiver got by some events, and by one more
pub mod Tallies
-- the outcomes after a record, by the place of the first finish
pub mod Finished
-- lists of the same elements, sorted by an order in which only equal ones tie, are one list
pub mod Sorted
-- delivered notices in their order
pub mod Comparisons
