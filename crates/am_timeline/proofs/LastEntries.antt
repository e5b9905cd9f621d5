-- While the log has a row of a group and an integration, the last entry is that row's.
use Rattle.std.proofs.Common.{◌≡◌, ◌∙◌, ℕ, Bool, true, false, [], ◌∷◌, Option, Some, None, ap, sym, refl, if◌then◌else◌}
use Rattle.std.specs.Option.{option_map, option_or}
use Rattle.std.proofs.lemmas.Bool.{and_parts}
use Rattle.am_model.specs.declared.config.Config.{Config}
use Rattle.am_model.specs.declared.group.GroupName.{GroupName}
use Rattle.am_model.specs.declared.record.Call.{Call}
use Rattle.am_model.specs.declared.record.Call.TheVariants.{Insert, Silence, Begin, Finish, Maintain, RemoveEmptyGroups, Forget, Load, Note}
use Rattle.am_model.specs.declared.record.Reply.{Reply}
use Rattle.am_model.specs.declared.record.Reply.TheVariants as reply_is
use Rattle.am_model.specs.declared.views.RowView.{RowView}
use Rattle.am_model.specs.Configured.{expiry_at}
use Rattle.am_model.specs.Maintenance.{has_expired}
use Rattle.am_model.specs.look_back.Entry.{begin_named, begins_group, entry_in, logs, row_loaded, row_of_begin}
use Rattle.am_model.specs.look_back.Entry.{row_of_flush, unless_collected}
use Rattle.am_model.specs.look_back.Past.{Past, begin_of, is_flush_of, time_at}
use Rattle.am_model.proofs.states.Alike.{same_name-is}
use Rattle.am_timeline.specs.declared.logbook.log.LastEntry.TheVariants.{Logged}
use Rattle.am_timeline.specs.LastEntry.{LastEntriesAreRows, entry_of_row, expiry_in, last_entry}

-- when a row expires, if there is one
abbrev expiry_if : Option RowView → Option ℕ
expiry_if row = option_map (λ (r : RowView). r.expiry) row

-- the row of a flush of a group expires as the configuration says
flush-expiry : (config : Config) (t i begun : ℕ) (name : GroupName) (past : Past) (reply : Reply) → is_flush_of name reply ≡ true
    → expiry_if (row_of_flush config t i begun past reply) ≡ Some (expiry_at config name t)
flush-expiry config t i begun name past (reply_is.Inserted inserted) is = let h : false ≡ true = is in cc
flush-expiry config t i begun name past (reply_is.Silenced silenced) is = let h : false ≡ true = is in cc
flush-expiry config t i begun name past reply_is.NothingDue is = let h : false ≡ true = is in cc
flush-expiry config t i begun name past (reply_is.Quiet group removed) is = let h : false ≡ true = is in cc
flush-expiry config t i begun name past (reply_is.Flush group opened) is =
    sym (ap (λ (g : GroupName). Some (expiry_at config g t)) (same_name-is name group is))
flush-expiry config t i begun name past (reply_is.Finished finished) is = let h : false ≡ true = is in cc
flush-expiry config t i begun name past (reply_is.Maintained maintained) is = let h : false ≡ true = is in cc
flush-expiry config t i begun name past (reply_is.EmptyGroupsRemoved removed) is = let h : false ≡ true = is in cc
flush-expiry config t i begun name past (reply_is.Forgotten forgotten) is = let h : false ≡ true = is in cc
flush-expiry config t i begun name past (reply_is.Loaded loaded) is = let h : false ≡ true = is in cc
flush-expiry config t i begun name past reply_is.Noted is = let h : false ≡ true = is in cc

begin-expiry : (config : Config) (t i : ℕ) (name : GroupName) (begin : Past) → begins_group name begin ≡ true
    → expiry_if (row_of_begin config t i begin) ≡ Some (expiry_at config name t)
begin-expiry config t i name [] is = let h : false ≡ true = is in cc
begin-expiry config t i name (r ∷ past) is = flush-expiry config t i (time_at (r ∷ past)) name past r.reply is

-- a call that logs a success names a flush of the group
logs-names : (name : GroupName) (i : ℕ) (past : Past) (call : Call) → logs name i past call ≡ true
    → begins_group name (begin_named past call) ≡ true
logs-names name i past (Insert now alert) is = let h : false ≡ true = is in cc
logs-names name i past (Silence now id matchers start end) is = let h : false ≡ true = is in cc
logs-names name i past (Begin now) is = let h : false ≡ true = is in cc
logs-names name i past (Finish now number outcomes) is =
    (and_parts (begins_group name (begin_of number past)) _ is).0
logs-names name i past (Maintain now) is = let h : false ≡ true = is in cc
logs-names name i past (RemoveEmptyGroups now) is = let h : false ≡ true = is in cc
logs-names name i past (Forget now) is = let h : false ≡ true = is in cc
logs-names name i past (Load now row) is = let h : false ≡ true = is in cc
logs-names name i past (Note now number j outcome) is = (and_parts (begins_group name (begin_of number past)) _ is).0

-- a row that wasn't collected was there before
was_there : (t : ℕ) (call : Call) (row : Option RowView) (x : RowView) → unless_collected t call row ≡ Some x → row ≡ Some x
was_there t (Insert now alert) row x at = at
was_there t (Silence now id matchers start end) row x at = at
was_there t (Begin now) row x at = at
was_there t (Finish now number outcomes) row x at = at
was_there t (Maintain now) None x at = at
was_there t (Maintain now) (Some row) x at = by (has_expired t row) at
  where
    by : (expired : Bool) → (if expired then None else Some row) ≡ Some x → Some row ≡ Some x
    by true e = let h : None ≡ Some x = e in cc
    by false e = e
was_there t (RemoveEmptyGroups now) row x at = at
was_there t (Forget now) row x at = at
was_there t (Load now loaded) row x at = at
was_there t (Note now number i outcome) row x at = at

-- the first of two rows, if it is there
first-expiry : (first other : Option RowView) (expiry : ℕ) (row : RowView) → expiry_if first ≡ Some expiry
    → option_or first other ≡ Some row → Some expiry ≡ Some row.expiry
first-expiry None other expiry row e at = let h : None ≡ Some expiry = e in cc
first-expiry (Some x) other expiry row e at = sym e ∙ ap (λ (o : Option RowView). expiry_if o) at

pub last_entries_are_rows : LastEntriesAreRows
last_entries_are_rows config name i [] row at = let h : None ≡ Some row = at in cc
last_entries_are_rows config name i (r ∷ past) row at =
    by (λ e. last_entries_are_rows config name i past row e) (logs name i past r.call) refl (row_loaded name i r) at
  where
    t : ℕ
    t = time_at (r ∷ past)

    begun : Option RowView
    begun = row_of_begin config t i (begin_named past r.call)

    by : (entry_in config name i past ≡ Some row → option_map (expiry_in config name) (last_entry name i past) ≡ Some row.expiry)
        → (success : Bool) → logs name i past r.call ≡ success → (loaded : Option RowView)
        → option_or (if success then begun else None)
        (option_or loaded (unless_collected t r.call (entry_in config name i past))) ≡ Some row
        → option_map (expiry_in config name)
        (if success then Some (Logged t) else option_or (option_map entry_of_row loaded) (last_entry name i past)) ≡ Some row.expiry
    by before true is loaded e =
        first-expiry begun (option_or loaded (unless_collected t r.call (entry_in config name i past))) (expiry_at config name t) row
        (begin-expiry config t i name (begin_named past r.call) (logs-names name i past r.call is)) e
    by before false is (Some x) e = ap (λ (o : Option RowView). expiry_if o) e
    by before false is None e = before (was_there t r.call (entry_in config name i past) row e)
