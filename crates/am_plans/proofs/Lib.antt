-- items of an array that are read one for one
pub mod Lists
-- planned actions that are added to a list, and put in order
pub mod Plans
-- members that are read, and lists of what is made of what was read
pub mod Decodings
-- a JSON value says one span at most
pub mod Spans
-- a JSON value says one label set at most
pub mod LabelSets
-- the members of an expectation say one target and one content at most
pub mod Contents
-- what is given of alerts and silences can be planned
pub mod Makes
-- spans of expectations
pub mod ExpectedSpans
-- expectations whose matchers need no regex
pub mod NoRegex
-- a JSON value says one outage at most
pub mod Outages
-- what reloads and restarts may follow, what a JSON value says of them, and their order
pub mod DispatcherChanges
-- what one of some configurations has
pub mod SomeHave
-- receivers of a name: the first of them, and whether there is another
pub mod Named
