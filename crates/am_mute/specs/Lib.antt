-- all that mutes a label set: each silence, and each inhibition rule with its source
pub mod Causes
-- inhibition rules: which known alert mutes which label set
pub mod Inhibit
-- the faults' numbers, by their values
pub mod Laws
-- matchers that take no memory: those that compare texts
pub mod Matching
-- what mutes a label set: a silence, or an inhibition rule with its source
pub mod Mute
-- where silences are in a list, by their ids
pub mod Places
-- silences: when they are active, and what they mute
pub mod Silence
-- where silences are in an index, by the labels that they ask for
pub mod SilenceIndex
-- silences as they are kept, with capacity for more
pub mod Silences
-- an index of sources: the keys of alerts, and how many alerts were learnt
pub mod SourceIndex
-- known alerts that can be sources, found by their values under the names of `equal`
pub mod Sources
-- targets: label sets that a rule may mute
pub mod Target
