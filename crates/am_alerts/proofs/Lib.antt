-- matchers that compare texts, and those that search for a pattern
pub mod Compared
-- the texts that are durations are `0` and the sums of parts
pub mod DurationTexts
-- durations' texts: reading from the front gives the value
pub mod Durations
-- escaped values
pub mod Escapes
-- the first fault of a list, as a loop comes to it
pub mod Faults
-- the first element of a list that passes a test, as a loop comes to it
pub mod Finding
-- forests of nodes
pub mod Forests
-- what routing trees are kept as, where they are made
pub mod Kept
-- texts of a list's items with a text between them, as a loop appends them
pub mod Joins
-- label sets: what a filter keeps, and what a sort of labels with different names gives
pub mod LabelSets
-- forests and the lists in which they lie
pub mod Layouts
-- the patterns of the first of some matchers, from one matcher to the next
pub mod MetPatterns
-- label names
pub mod Names
-- packed labels: they are ordered as their runs are, and a label can be appended to a run
pub mod Packing
-- pairs of a name and a value, read as labels
pub mod Pairs
-- what it is that a pattern has a match in a text, and the worked rows
pub mod PatternLaws
-- a regex that was built, and what the syntax of `regex` reads in its text
pub mod Patterns
-- what plain texts with bars between them match: one of the texts, as a whole
pub mod PlainMatches
-- what the syntax of `regex` reads in plain texts with bars between them
pub mod PlainReads
-- the positions of a label set's routes: they ascend, and each is of a route
pub mod Positions
-- a set of the names of routes, which meets a name again where two routes have it
pub mod RouteNames
-- a search among the routes of a tree, step by step
pub mod Searches
-- spans that are apart: until when one lasts
pub mod Muted
-- laws of routing trees
pub mod TreeLaws
-- routing trees
pub mod Trees
