-- Load: a row that another board's log had is put into the log (Alertmanager's nflog.Log.Merge, for one entry).
use Rattle.std.specs.Prelude.{ℕ, Bool, true, false, ◌&&◌, nat_lt, nat_le, List, length, find, Option, Some, None, if◌then◌else◌}
use Rattle.am_alerts.specs.Labels.{label_set_cmp}
use Rattle.am_alerts.specs.RoutingTree.{last_of}
use Rattle.am_nflog.specs.Members.{is_ascending}
use Rattle.am_model.specs.declared.config.Config.{Config}
use Rattle.am_model.specs.declared.record.Loaded.{Loaded}
use Rattle.am_model.specs.declared.record.Loaded.TheVariants.{Put, Kept, Expired}
use Rattle.am_model.specs.declared.record.Reply.{Reply}
use Rattle.am_model.specs.declared.record.Reply.TheVariants as reply
use Rattle.am_model.specs.declared.views.RowView.{RowView}
use Rattle.am_model.specs.Configured.{route_of, integrations_named}
use Rattle.am_model.specs.Finish.{same_key, log_with}
use Rattle.am_model.specs.State.{State}

-- whether a configuration has a row's integration: a route at the position, whose receiver has an integration at the position
abbrev pub has_integration : Config → RowView → Bool
has_integration config row =
    nat_le row.group.route (last_of config.routes)
    && nat_lt row.integration (length (integrations_named (route_of config row.group).receiver config.receivers))

-- whether the label sets of a row are in their order, each once, as each row of a log has them
abbrev pub is_ordered : RowView → Bool
is_ordered row = is_ascending label_set_cmp row.firing && is_ascending label_set_cmp row.resolved

-- whether a row can be loaded at t: the configuration has its integration, its label sets are in order, and it isn't of a later time
abbrev pub may_load : Config → ℕ → RowView → Bool
may_load config t row = has_integration config row && is_ordered row && nat_le row.time t

-- what becomes of a row by the log's entry for its key: the row replaces the entry, unless that is of the same time or a later one
abbrev pub loaded_by : RowView → Option RowView → Loaded
loaded_by row None = Put
loaded_by row (Some entry) = if nat_lt entry.time row.time then Put else Kept

-- what becomes of a row at t: it is expired where its expiry is before t, and else it goes by the entry
abbrev pub loaded_over : ℕ → RowView → Option RowView → Loaded
loaded_over t row entry = if nat_lt row.expiry t then Expired else loaded_by row entry

-- what becomes of a row that is loaded at t into these rows
abbrev pub loaded : List RowView → ℕ → RowView → Loaded
loaded rows t row = loaded_over t row (find (same_key row) rows)

-- whether a row is put into the log
abbrev pub is_put : Loaded → Bool
is_put Put = true
is_put Kept = false
is_put Expired = false

-- the rows after a load at t; they are as they were where the row may not be loaded
abbrev pub rows_loading : Config → List RowView → ℕ → RowView → List RowView
rows_loading config rows t row =
    if may_load config t row && is_put (loaded rows t row) then log_with row rows else rows

-- the reply to a load at t: what becomes of the row; none where it may not be loaded
abbrev pub load_reply : Config → State → ℕ → RowView → Option Reply
load_reply config s t row = if may_load config t row then Some (reply.Loaded (loaded s.rows t row)) else None

-- the state after a load at t
abbrev pub after_load : Config → State → ℕ → RowView → State
after_load config s t row = record s { clock = t; rows = rows_loading config s.rows t row }
