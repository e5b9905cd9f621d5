-- what a caller cites of a log: which rows and keys there are after each change
pub mod CallerLemmas
-- needing an update looks at its lists as sets only, and is the same under a one-to-one numbering
pub mod Numbering
-- one step of the search for the members of one ascending list in another
mod Subsets
-- a collection that has come as far as an index of the log
mod Sweeps
