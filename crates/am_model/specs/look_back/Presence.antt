-- Presence: which alerts are in a group, computed from the end of a history, without a state.
use Rattle.std.specs.Prelude.{ℕ, Bool, false, ◌&&◌, ◌||◌, List, [], ◌∷◌, Option, Some, None, if◌then◌else◌}
use Rattle.std.specs.List.{list_all, list_any}
use Rattle.am_alerts.specs.AlertData.{AlertData, is_resolved}
use Rattle.am_alerts.specs.Labels.{same_label_set}
use Rattle.am_alerts.specs.declared.labels.Label.{Label}
use Rattle.am_retry.specs.declared.outcome.Outcome.{Outcome}
use Rattle.am_model.specs.declared.config.Config.{Config}
use Rattle.am_model.specs.declared.group.GroupName.{GroupName}
use Rattle.am_model.specs.declared.record.Call.{Call}
use Rattle.am_model.specs.declared.record.Call.TheVariants.{Insert, Silence, Begin, Finish, Maintain, RemoveEmptyGroups, Forget, Load, Note}
use Rattle.am_model.specs.declared.record.Record.{Record}
use Rattle.am_model.specs.declared.record.Reply.{Reply}
use Rattle.am_model.specs.declared.record.Reply.TheVariants.{Inserted, Silenced, NothingDue, Quiet, Flush}
use Rattle.am_model.specs.declared.record.Reply.TheVariants.{Finished, Maintained, EmptyGroupsRemoved, Forgotten, Loaded, Noted}
use Rattle.am_model.specs.Insert.{names_for}
use Rattle.am_model.specs.look_back.Past.{Past, time_at, is_flush, is_flush_of, is_quiet, notices_in, begin_of, succeeded}
use Rattle.am_model.specs.State.{MemberState, same_name}

-- whether one of the routes of a label set leads to this group
abbrev pub goes_to : Config → GroupName → List Label → Bool
goes_to config name labels = list_any (same_name name) (names_for config labels)

-- whether a call inserts this label set
abbrev pub inserts : List Label → Call → Bool
inserts labels (Insert now alert) = same_label_set labels alert.labels
inserts labels (Silence now id matchers start end) = false
inserts labels (Begin now) = false
inserts labels (Finish now number outcomes) = false
inserts labels (Maintain now) = false
inserts labels (RemoveEmptyGroups now) = false
inserts labels (Forget now) = false
inserts labels (Load now row) = false
inserts labels (Note now number integration outcome) = false

-- the stamp that an insert returned
abbrev pub stamp_returned : Reply → ℕ
stamp_returned (Inserted inserted) = inserted.stamp
stamp_returned (Silenced silenced) = 0
stamp_returned NothingDue = 0
stamp_returned (Quiet group removed) = 0
stamp_returned (Flush group opened) = 0
stamp_returned (Finished finished) = 0
stamp_returned (Maintained maintained) = 0
stamp_returned (EmptyGroupsRemoved removed) = 0
stamp_returned (Forgotten forgotten) = 0
stamp_returned (Loaded loaded) = 0
stamp_returned Noted = 0

-- the alert that a call inserts, with this stamp
abbrev pub inserted_by : ℕ → Call → Option MemberState
inserted_by stamp (Insert now alert) = Some (record { alert = alert; stamp = stamp })
inserted_by stamp (Silence now id matchers start end) = None
inserted_by stamp (Begin now) = None
inserted_by stamp (Finish now number outcomes) = None
inserted_by stamp (Maintain now) = None
inserted_by stamp (RemoveEmptyGroups now) = None
inserted_by stamp (Forget now) = None
inserted_by stamp (Load now row) = None
inserted_by stamp (Note now number integration outcome) = None

-- the last insert of a label set: its alert, with its stamp
abbrev pub last_insert : List Label → Past → Option MemberState
last_insert labels [] = None
last_insert labels (r ∷ past) = if inserts labels r.call then inserted_by (stamp_returned r.reply) r.call else last_insert labels past

-- the past that begins with the begin of the flush of this number, if that is after the last insert of a label set; else empty
abbrev pub begin_since : List Label → ℕ → Past → Past
begin_since labels number [] = []
begin_since labels number (r ∷ past) =
    if inserts labels r.call then []
    else if is_flush number r.reply then r ∷ past
    else begin_since labels number past

-- whether the begin at the head is of this group, and an alert was resolved at its time
abbrev pub resolved_at_begin : GroupName → AlertData → Past → Bool
resolved_at_begin name a [] = false
resolved_at_begin name a (r ∷ past) = is_flush_of name r.reply && is_resolved a (time_at (r ∷ past))

-- whether all that the flush at the head notified succeeded, where its finish has these outcomes and this past
abbrev pub all_succeeded_at : ℕ → List (ℕ × Outcome) → Past → Past → Bool
all_succeeded_at number outcomes finish_past [] = false
all_succeeded_at number outcomes finish_past (r ∷ past) = list_all (succeeded number outcomes finish_past) (notices_in r.reply)

-- whether a finish with this past takes an alert out of a group: its flush is of the group, began after the alert's last insert and had
-- it resolved, and all that it notified succeeded
abbrev pub finish_removes : GroupName → AlertData → Past → Call → Bool
finish_removes name a past (Insert now alert) = false
finish_removes name a past (Silence now id matchers start end) = false
finish_removes name a past (Begin now) = false
finish_removes name a past (Finish now number outcomes) =
    resolved_at_begin name a (begin_since a.labels number past) && all_succeeded_at number outcomes past (begin_of number past)
finish_removes name a past (Maintain now) = false
finish_removes name a past (RemoveEmptyGroups now) = false
finish_removes name a past (Forget now) = false
finish_removes name a past (Load now row) = false
finish_removes name a past (Note now number integration outcome) = false

-- whether the latest record removes an alert from a group: a quiet begin of the group at whose time it is resolved, or a finish
abbrev pub removes : GroupName → AlertData → Record → Past → Bool
removes name a r past =
    (is_quiet name r.reply && is_resolved a (time_at (r ∷ past))) || finish_removes name a past r.call

-- whether an alert was taken out of a group since its last insert
abbrev pub has_left : GroupName → AlertData → Past → Bool
has_left name a [] = false
has_left name a (r ∷ past) = if inserts a.labels r.call then false else removes name a r past || has_left name a past

-- an insert whose alert wasn't taken out of a group since
abbrev pub unless_left : GroupName → Past → Option MemberState → Option MemberState
unless_left name past None = None
unless_left name past (Some m) = if has_left name m.alert past then None else Some m

-- presence: the alert of a label set in a group, with its stamp, if it is there: that of the last insert, if one of the label set's
-- routes leads to the group, and nothing took it out since
abbrev pub presence : Config → GroupName → List Label → Past → Option MemberState
presence config name labels past =
    if goes_to config name labels then unless_left name past (last_insert labels past) else None
