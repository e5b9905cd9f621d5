-- alerts as contracts see them
pub mod AlertData
-- durations as texts: which are read, and as how many milliseconds
pub mod Duration
-- values that are made unless there is a fault, and the first fault of a list
pub mod Fault
-- trees side by side: how many routes and levels they have, and these in order
pub mod Forest
-- the laws of the order of label sets, and what a label set feeds a hasher
pub mod LabelOrder
-- a label set as a text, with its values escaped
pub mod LabelText
-- label names, labels and label sets: which pairs make one, and how two compare
pub mod Labels
-- the limits and the faults' numbers, by their values
pub mod Laws
-- a forest as a list: each route before those below it, with their number
pub mod Layout
-- matchers: which label sets they match, alone and in lists
pub mod Matcher
-- routes that say only some of their options, and have the others from above
pub mod Nested
-- labels in a run of bytes, each with where it is there: the invariant of packed labels
pub mod PackedLabels
-- the run of bytes that labels are packed into, and its hash
pub mod Packing
-- patterns: regular expressions in the syntax of the crate `regex`
pub mod Pattern
-- patterns that are plain texts with bars between them
pub mod Plain
-- a routing tree as it is kept: a list of routes, and the number of those below each
pub mod RouteLayouts
-- a route and its options, and the group that it makes of a label set
pub mod Route
-- routing trees: the routes of a label set, and why routes are no tree
pub mod RoutingTree
-- matchers that meet many label sets: the patterns that have a searcher for them
pub mod Searchers
-- spans of time in which a route is muted: which they can be, and until when one lasts
pub mod Spans
-- laws of routing trees: the order of search, inherited options, which routes are reached
pub mod TreeLaws
