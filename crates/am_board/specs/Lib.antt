-- between the code of an insert of an alert that all its groups have and its definition
pub mod Again
-- what an insert of an alert that comes does to the stored state
pub mod Arrival
-- between the code of a begin and its definition: what it finds in its group, and the flush that it opens
pub mod Beginning
-- the invariant of a board's fields
pub mod Board
-- the cached names of known alerts' groups are those that the configuration gives
pub mod GroupNameCache
-- why an integration is notified, by its row in the stored log, and whom a begin notifies for these reasons
pub mod Dedup
-- the keys of the set of due times, and what the set has while it is complete
pub mod Due
-- how many of the stored groups have no alerts
pub mod Empty
-- the laws of the order of those keys
pub mod DueOrder
-- the numbers of faults
pub mod Faults
-- between the code of a begin and of a preview and their definitions: what is found in the group that is taken
pub mod Found
-- between the code of a finish or a note and its definition: what it puts into the stored log
pub mod Finishing
-- between the code of a forgetting and its definition: which label sets are in groups
pub mod Forgetting
-- stored groups, and the changes of one of them
pub mod Group
-- the stored groups, under their names, in the order in which they were made
pub mod GroupList
-- a board as contracts see it, by its configuration, its id and its history
pub mod History
-- between the code of an insert and its definition: what it puts into groups, and the capacity that it needs
pub mod Inserting
-- how the stored state of a board represents a state of the definitions
pub mod Refinement
-- tables in which each value is under the key that the value itself gives
pub mod Keyed
-- the stored known alerts, under their labels, in the order of arrival
pub mod Known
-- between the code of a load and the definitions
pub mod Loading
-- what a begin looks at, and what is true of it
pub mod Look
-- the rows that a note or a finish puts into the log
pub mod Logged
-- the stored log as the list of its rows
pub mod LogRows
-- the stored alerts of a group, with the order of their labels
pub mod MemberTable
-- the stored alerts of a group, under their labels, in the order in which the label sets came into it
pub mod Members
-- which groups have an open flush
pub mod Marks
-- between the code of a note and its definition: what it finds among the stored flushes
pub mod Noting
-- the alerts of a group in the order of their labels, as indexes
pub mod Order
-- what a call does to the stored state of a board
pub mod Step
-- label sets that no silence mutes, as they are noted
pub mod Unsilenced
-- what a walk over the alerts of a group finds, by what mutes each of them
pub mod Walk
