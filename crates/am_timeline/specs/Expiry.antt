-- Expiry: when the entry of the notification log expired for whose lack a notice is a first one. It is computed by looking back.
use Rattle.std.specs.Prelude.{ℕ, nat_le, nat_lt, List, ◌∷◌, length, take, Option, Some, None, slice_get, if◌then◌else◌}
use Rattle.std.specs.Option.{option_and_then}
use Rattle.am_model.specs.declared.config.Config.{Config}
use Rattle.am_model.specs.declared.group.GroupName.{GroupName}
use Rattle.am_model.specs.declared.record.Record.{Record}
use Rattle.am_model.specs.declared.record.Reply.{Reply}
use Rattle.am_model.specs.declared.record.Reply.TheVariants.{Inserted, Silenced, NothingDue, Quiet, Flush}
use Rattle.am_model.specs.declared.record.Reply.TheVariants.{Finished, Maintained, EmptyGroupsRemoved, Forgotten, Loaded, Noted}
use Rattle.am_model.specs.Configured.{route_of, integrations_named}
use Rattle.am_model.specs.look_back.Past.{Past, time_at, past_of}
use Rattle.am_timeline.specs.declared.logbook.log.LastEntry.{LastEntry}
use Rattle.am_timeline.specs.LastEntry.{expiry_in, last_entry}

-- an expiry, if it is reached at t
abbrev pub if_reached : ℕ → ℕ → Option ℕ
if_reached t expiry = if nat_le expiry t then Some expiry else None

-- when an entry of a group expired, if there is one and it had expired by t
abbrev pub expiry_of : Config → GroupName → ℕ → Option LastEntry → Option ℕ
expiry_of config name t entry = option_and_then (λ e. if_reached t (expiry_in config name e)) entry

-- the group of the flush that a reply begins
abbrev pub flush_group : Reply → Option GroupName
flush_group (Inserted inserted) = None
flush_group (Silenced silenced) = None
flush_group NothingDue = None
flush_group (Quiet group removed) = None
flush_group (Flush group opened) = Some group
flush_group (Finished finished) = None
flush_group (Maintained maintained) = None
flush_group (EmptyGroupsRemoved removed) = None
flush_group (Forgotten forgotten) = None
flush_group (Loaded loaded) = None
flush_group Noted = None

-- how many integrations the receiver of a group has
abbrev pub count_integrations : Config → GroupName → ℕ
count_integrations config name = length (integrations_named (route_of config name).receiver config.receivers)

-- when the last entry of a group and an integration of its receiver expired, if it had expired by t
abbrev pub expired_at : Config → ℕ → ℕ → Past → GroupName → Option ℕ
expired_at config integration t past name =
    if nat_lt integration (count_integrations config name) then expiry_of config name t (last_entry name integration past) else None

-- the same by the record that begins a flush of the group, after a past
abbrev pub expired_before : Config → ℕ → Past → Record → Option ℕ
expired_before config integration past r =
    option_and_then (expired_at config integration (time_at (r ∷ past)) past) (flush_group r.reply)

-- expired: the same by the flush that began at an index
abbrev pub expired : Config → List Record → ℕ → ℕ → Option ℕ
expired config history index integration =
    option_and_then (expired_before config integration (past_of (take index history))) (slice_get history index)
