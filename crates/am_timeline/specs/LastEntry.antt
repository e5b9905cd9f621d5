-- LastEntry: what gave the notification log its entry of a group and an integration last. It is computed by looking back.
use Rattle.std.specs.Prelude.{◌≡◌, ℕ, [], ◌∷◌, Option, Some, None, if◌then◌else◌}
use Rattle.std.specs.Option.{option_map, option_or}
use Rattle.am_model.specs.declared.config.Config.{Config}
use Rattle.am_model.specs.declared.group.GroupName.{GroupName}
use Rattle.am_model.specs.declared.record.Record.{Record}
use Rattle.am_model.specs.declared.views.RowView.{RowView}
use Rattle.am_model.specs.Configured.{expiry_at}
use Rattle.am_model.specs.look_back.Entry.{entry_in, logs, row_loaded}
use Rattle.am_model.specs.look_back.Past.{Past, time_at}
use Rattle.am_timeline.specs.declared.logbook.log.LastEntry.{LastEntry}
use Rattle.am_timeline.specs.declared.logbook.log.LastEntry.TheVariants.{Logged, Loaded}

-- the entry that a row gives, which has its expiry
abbrev pub entry_of_row : RowView → LastEntry
entry_of_row row = Loaded row.expiry

-- the entry that a record gives a group and an integration by a load: a row of theirs that was put into the log
abbrev pub entry_loaded : GroupName → ℕ → Record → Option LastEntry
entry_loaded name integration r = option_map entry_of_row (row_loaded name integration r)

-- last entry: the success that was logged last for a group and an integration, or the row of theirs that was put into the log since
abbrev pub last_entry : GroupName → ℕ → Past → Option LastEntry
last_entry name integration [] = None
last_entry name integration (r ∷ past) =
    if logs name integration past r.call then Some (Logged (time_at (r ∷ past)))
    else option_or (entry_loaded name integration r) (last_entry name integration past)

-- when an entry of a group expires: that of a success as the configuration says, that of a row when the row does
abbrev pub expiry_in : Config → GroupName → LastEntry → ℕ
expiry_in config name (Logged at) = expiry_at config name at
expiry_in config name (Loaded expiry) = expiry

-- while a group and an integration have a row of the log, the last entry is that row's: it expires when the row does
abbrev pub LastEntriesAreRows : Type 0
LastEntriesAreRows =
    (config : Config) (name : GroupName) (integration : ℕ) (past : Past) (row : RowView)
    → entry_in config name integration past ≡ Some row
    → option_map (expiry_in config name) (last_entry name integration past) ≡ Some row.expiry
