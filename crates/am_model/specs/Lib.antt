-- a begin: the flush of the group that was due first
pub mod Begin
-- which rows a log under a new configuration takes over of one under an old one
pub mod Carry
-- the first cause, except memory, for which a call fails at a state after so many records
pub mod Causes
-- which configurations are valid, and the first fault of one that isn't
pub mod Config
-- a group's route, receiver and integrations in a configuration
pub mod Configured
-- the numbers of faults
pub mod Faults
-- a finish: the successes of a flush are logged, and its resolved alerts leave
pub mod Finish
-- a forgetting: alerts that are resolved and in no group go, and silences that are over
pub mod Forget
-- an insert: an alert goes to the known ones and to the groups of its routes
pub mod Insert
-- what is true after every history, and how a history's state goes record by record
pub mod Laws
-- where the keys of routes are
pub mod KeyIndex
-- operations on the lists of a state, which put, remove, change and order elements
pub mod Lists
-- a load: a row that another board's log had is put into the log
pub mod Load
-- a note: the success of one integration is logged before its flush is finished
pub mod Note
-- a notice as contracts see it
pub mod Notice
-- the outcomes of a flush's notices, by its finish in the later records
pub mod Outcomes
-- the call and the reply that each record keeps
pub mod Records
-- which rows a log under a new configuration has for those of one under an old one, as in Alertmanager
pub mod Rekey
-- the reply that is due to a call, the state after each record, and which histories are legal
pub mod Replay
-- which names the receivers of a configuration have, and where they are
pub mod Receivers
-- the key of each route, by which Alertmanager's log knows it again
pub mod RouteKeys
-- what a dispatcher of one thread has, as plain lists in the order of arrival
pub mod State
-- why a label set is muted, and which routes it has
pub mod Status
-- a ticket as contracts see it, and the outcomes that it records
pub mod Ticket
-- the calls silence, maintain and remove_empty_groups
pub mod Maintenance
-- the limits, the default and the faults' numbers, by their values
pub mod Values
-- the rows, groups and counts that a board returns of its state
pub mod Views
-- what was done and why, computed from a history alone, without a state
pub mod look_back
