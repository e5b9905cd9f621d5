-- Past: a history with its latest record first. Behind each record are those before it, so recursion looks back from the end.
use Rattle.std.specs.Prelude.{ℕ, Bool, true, false, ◌&&◌, ◌||◌, ◌==◌, min, max, List, [], ◌∷◌, reverse}
use Rattle.std.specs.Prelude.{if◌then◌else◌}
use Rattle.std.specs.List.{list_any}
use Rattle.am_alerts.specs.declared.limits.TheConstants.{MAX_TIME}
use Rattle.am_retry.specs.declared.outcome.Outcome.{Outcome}
use Rattle.am_model.specs.declared.config.Config.{Config}
use Rattle.am_model.specs.declared.group.GroupName.{GroupName}
use Rattle.am_model.specs.declared.record.Call.{Call}
use Rattle.am_model.specs.declared.record.Call.TheVariants.{Insert, Silence, Begin, Finish, Maintain, RemoveEmptyGroups, Forget, Load, Note}
use Rattle.am_model.specs.declared.record.Record.{Record}
use Rattle.am_model.specs.declared.record.Reply.{Reply}
use Rattle.am_model.specs.declared.record.Reply.TheVariants.{Inserted, Silenced, NothingDue, Quiet, Flush}
use Rattle.am_model.specs.declared.record.Reply.TheVariants.{Finished, Maintained, EmptyGroupsRemoved, Forgotten, Loaded, Noted}
use Rattle.am_model.specs.Records.{now_of}
use Rattle.am_model.specs.Notice.{NoticeData, is_nothing}
use Rattle.am_model.specs.Finish.{is_delivered}
use Rattle.am_model.specs.Replay.{replay}
use Rattle.am_model.specs.State.{State, same_name}
use Rattle.am_model.specs.Ticket.{outcome_of}

-- records with the latest first
abbrev pub Past : Type 0
Past = List Record

-- a history with its latest record first
abbrev pub past_of : List Record → Past
past_of history = reverse history

-- the state after a past: the replay of its history
abbrev pub replay_past : Config → Past → State
replay_past config past = replay config (reverse past)

-- what holds of each record and the records before it
abbrev pub AtEach : (Record → Past → Type 0) → Past → Type 0
AtEach P [] = Unit {0}
AtEach P (r ∷ past) = P r past × AtEach P past

-- the time of the latest record: the greatest that was handed in so far, but none after the greatest there is
abbrev pub time_at : Past → ℕ
time_at [] = 0
time_at (r ∷ past) = max (time_at past) (min (now_of r.call) MAX_TIME)

-- whether a reply is the flush of this number
abbrev pub is_flush : ℕ → Reply → Bool
is_flush number (Inserted inserted) = false
is_flush number (Silenced silenced) = false
is_flush number NothingDue = false
is_flush number (Quiet group removed) = false
is_flush number (Flush group opened) = opened.number == number
is_flush number (Finished finished) = false
is_flush number (Maintained maintained) = false
is_flush number (EmptyGroupsRemoved removed) = false
is_flush number (Forgotten forgotten) = false
is_flush number (Loaded loaded) = false
is_flush number Noted = false

-- whether a reply is that this group was begun and nobody is notified
abbrev pub is_quiet : GroupName → Reply → Bool
is_quiet name (Inserted inserted) = false
is_quiet name (Silenced silenced) = false
is_quiet name NothingDue = false
is_quiet name (Quiet group removed) = same_name name group
is_quiet name (Flush group opened) = false
is_quiet name (Finished finished) = false
is_quiet name (Maintained maintained) = false
is_quiet name (EmptyGroupsRemoved removed) = false
is_quiet name (Forgotten forgotten) = false
is_quiet name (Loaded loaded) = false
is_quiet name Noted = false

-- whether a reply is a flush of this group
abbrev pub is_flush_of : GroupName → Reply → Bool
is_flush_of name (Inserted inserted) = false
is_flush_of name (Silenced silenced) = false
is_flush_of name NothingDue = false
is_flush_of name (Quiet group removed) = false
is_flush_of name (Flush group opened) = same_name name group
is_flush_of name (Finished finished) = false
is_flush_of name (Maintained maintained) = false
is_flush_of name (EmptyGroupsRemoved removed) = false
is_flush_of name (Forgotten forgotten) = false
is_flush_of name (Loaded loaded) = false
is_flush_of name Noted = false

-- whether a reply takes this group: it names it, with a flush or without
abbrev pub takes : GroupName → Reply → Bool
takes name reply = is_quiet name reply || is_flush_of name reply

-- the notices of a flush
abbrev pub notices_in : Reply → List NoticeData
notices_in (Inserted inserted) = []
notices_in (Silenced silenced) = []
notices_in NothingDue = []
notices_in (Quiet group removed) = []
notices_in (Flush group opened) = opened.notices
notices_in (Finished finished) = []
notices_in (Maintained maintained) = []
notices_in (EmptyGroupsRemoved removed) = []
notices_in (Forgotten forgotten) = []
notices_in (Loaded loaded) = []
notices_in Noted = []

-- whether a call is the finish of the flush of this number
abbrev pub is_finish : ℕ → Call → Bool
is_finish number (Insert now alert) = false
is_finish number (Silence now id matchers start end) = false
is_finish number (Begin now) = false
is_finish number (Finish now n outcomes) = n == number
is_finish number (Maintain now) = false
is_finish number (RemoveEmptyGroups now) = false
is_finish number (Forget now) = false
is_finish number (Load now row) = false
is_finish number (Note now n integration outcome) = false

-- whether a call notes this integration for the flush of this number
abbrev pub is_note : ℕ → ℕ → Call → Bool
is_note number integration (Insert now alert) = false
is_note number integration (Silence now id matchers start end) = false
is_note number integration (Begin now) = false
is_note number integration (Finish now n outcomes) = false
is_note number integration (Maintain now) = false
is_note number integration (RemoveEmptyGroups now) = false
is_note number integration (Forget now) = false
is_note number integration (Load now row) = false
is_note number integration (Note now n i outcome) = (n == number) && (i == integration)

-- whether a call is a maintenance
abbrev pub is_maintenance : Call → Bool
is_maintenance (Insert now alert) = false
is_maintenance (Silence now id matchers start end) = false
is_maintenance (Begin now) = false
is_maintenance (Finish now n outcomes) = false
is_maintenance (Maintain now) = true
is_maintenance (RemoveEmptyGroups now) = false
is_maintenance (Forget now) = false
is_maintenance (Load now row) = false
is_maintenance (Note now n i outcome) = false

-- whether a call removes groups without alerts: a maintenance, or the removal of empty groups alone
abbrev pub removes_empty_groups : Call → Bool
removes_empty_groups (Insert now alert) = false
removes_empty_groups (Silence now id matchers start end) = false
removes_empty_groups (Begin now) = false
removes_empty_groups (Finish now n outcomes) = false
removes_empty_groups (Maintain now) = true
removes_empty_groups (RemoveEmptyGroups now) = true
removes_empty_groups (Forget now) = false
removes_empty_groups (Load now row) = false
removes_empty_groups (Note now n i outcome) = false

-- the past that begins with the begin of the flush of this number; empty, if it isn't there
abbrev pub begin_of : ℕ → Past → Past
begin_of number [] = []
begin_of number (r ∷ past) = if is_flush number r.reply then r ∷ past else begin_of number past

-- whether the flush of this number has begun
abbrev pub has_begun : ℕ → Past → Bool
has_begun number past = list_any (λ r. is_flush number r.reply) past

-- whether the flush of this number is finished
abbrev pub has_finished : ℕ → Past → Bool
has_finished number past = list_any (λ r. is_finish number r.call) past

-- whether an integration was noted for the flush of this number
abbrev pub was_noted : ℕ → ℕ → Past → Bool
was_noted number integration past = list_any (λ r. is_note number integration r.call) past

-- whether the integration of a notice succeeded in the flush of this number, whose finish has these outcomes and this past: it was
-- noted, or had nothing to send, or is reported delivered
abbrev pub succeeded : ℕ → List (ℕ × Outcome) → Past → NoticeData → Bool
succeeded number outcomes past n =
    was_noted number n.integration past || is_nothing n || is_delivered (outcome_of outcomes n.integration)
