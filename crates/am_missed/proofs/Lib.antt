-- integrations by receiver, kind and position, and which of them a span has after an insert
pub mod Recipients
-- what a span has later
pub mod Kept
-- the record that takes a group, its preview, and what happens there
pub mod Begins
-- a span that isn't over at a flush: the last insert fires, and those are to be notified to whom the routes lead
pub mod Inserts
-- what a flush comes to
pub mod Fates
-- each missed span has its causes
pub mod Causes
-- and each cause that is listed is that of a flush, as is what isn't listed
pub mod Came
-- worked rehearsals: spans with each cause, one that isn't listed, and what breaks the law where a premise is left out
pub mod Examples
