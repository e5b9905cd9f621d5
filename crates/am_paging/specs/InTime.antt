-- InTime: where a driver is on time for a group, none of its alerts waits for a notice longer than a bound.
use Rattle.std.specs.Prelude.{◌≡◌, ℕ, ◌+◌, ◌<◌, ◌≤◌, max, Bool, true, false, not, ◌||◌, ◌==◌, ◌⊎◌, All, List, [], ◌∷◌, Option, Some, None}
use Rattle.std.specs.Prelude.{find, nat_le}
use Rattle.std.specs.Prelude.{if◌then◌else◌}
use Rattle.std.specs.List.{list_all}
use Rattle.std.specs.Option.{IfSome, option_or}
use Rattle.am_alerts.specs.declared.labels.Label.{Label}
use Rattle.am_retry.specs.declared.outcome.Outcome.{Outcome}
use Rattle.am_model.specs.declared.config.Config.{Config}
use Rattle.am_model.specs.declared.group.GroupName.{GroupName}
use Rattle.am_model.specs.declared.record.Call.{Call}
use Rattle.am_model.specs.declared.record.Call.TheVariants.{Insert, Silence, Begin, Finish, Maintain, RemoveEmptyGroups, Forget, Load, Note}
use Rattle.am_model.specs.declared.record.Record.{Record}
use Rattle.am_model.specs.declared.record.Reply.{Reply}
use Rattle.am_model.specs.declared.record.Reply.TheVariants.{Inserted, Silenced, NothingDue, Quiet, Flush}
use Rattle.am_model.specs.declared.record.Reply.TheVariants.{Finished, Maintained, EmptyGroupsRemoved, Forgotten, Loaded, Noted}
use Rattle.am_model.specs.Configured.{route_of, integrations_of}
use Rattle.am_model.specs.Insert.{wait_of}
use Rattle.am_model.specs.State.{is_named}
use Rattle.am_model.specs.look_back.Entry.{begins_group}
use Rattle.am_model.specs.look_back.Laws.{has_open, begun_at}
use Rattle.am_model.specs.look_back.Past.{Past, AtEach, past_of, replay_past, time_at, takes, notices_in, begin_of, succeeded}
use Rattle.am_model.specs.look_back.Presence.{goes_to, inserts}
use Rattle.am_paging.specs.Paging.{is_due_a_page, pages, reports_page, HasHeard}

-- ---- a driver that is on time

-- whether a call with this past finishes a flush of a group
abbrev pub is_finish_of : GroupName → Past → Call → Bool
is_finish_of name past (Insert now alert) = false
is_finish_of name past (Silence now id matchers start end) = false
is_finish_of name past (Begin now) = false
is_finish_of name past (Finish now number outcomes) = begins_group name (begin_of number past)
is_finish_of name past (Maintain now) = false
is_finish_of name past (RemoveEmptyGroups now) = false
is_finish_of name past (Forget now) = false
is_finish_of name past (Load now row) = false
is_finish_of name past (Note now number integration outcome) = false

-- when a flush of a group was finished last; 0 if none was
abbrev pub ended_at : GroupName → Past → ℕ
ended_at name [] = 0
ended_at name (r ∷ past) = if is_finish_of name past r.call then time_at (r ∷ past) else ended_at name past

-- where no flush of a group is open, a record comes no later than the slack after the group is due and its last flush is finished
abbrev pub BeginsOnTime : ℕ → Config → GroupName → Record → Past → Type 0
BeginsOnTime slack config name r past =
    has_open name past ≡ false
    → IfSome (find (is_named name) (replay_past config past).groups) (λ g. time_at (r ∷ past) ≤ max g.due (ended_at name past) + slack)

-- where one is open, it comes no later than the hold after the group was begun
abbrev pub EndsOnTime : ℕ → Config → GroupName → Record → Past → Type 0
EndsOnTime hold config name r past =
    has_open name past ≡ true → IfSome (begun_at config name past) (λ begun. time_at (r ∷ past) ≤ begun + hold)

-- a record is on time for a group
pub record IsOnTime (slack hold : ℕ) (config : Config) (name : GroupName) (r : Record) (past : Past) : Type 0 where
  pub begins : BeginsOnTime slack config name r past
  pub ends : EndsOnTime hold config name r past

-- each record since the last begin of a group was on time for it
abbrev pub WasOnTime : ℕ → ℕ → Config → GroupName → Past → Type 0
WasOnTime slack hold config name [] = Unit {0}
WasOnTime slack hold config name (r ∷ past) =
    takes name r.reply ≡ false → IsOnTime slack hold config name r past × WasOnTime slack hold config name past

-- whether a reply is that nothing is due
abbrev pub is_nothing_due : Reply → Bool
is_nothing_due (Inserted inserted) = false
is_nothing_due (Silenced silenced) = false
is_nothing_due NothingDue = true
is_nothing_due (Quiet group removed) = false
is_nothing_due (Flush group opened) = false
is_nothing_due (Finished finished) = false
is_nothing_due (Maintained maintained) = false
is_nothing_due (EmptyGroupsRemoved removed) = false
is_nothing_due (Forgotten forgotten) = false
is_nothing_due (Loaded loaded) = false
is_nothing_due Noted = false

-- when a begin answered last that nothing is due; 0 if none did
abbrev pub asked_at : Past → ℕ
asked_at [] = 0
asked_at (r ∷ past) = if is_nothing_due r.reply then time_at (r ∷ past) else asked_at past

-- a record begins on time for each group, where a begin answered at most the slack ago that nothing is due
abbrev pub AskingIsOnTime : Config → List Record → Type 0
AskingIsOnTime config history =
    (slack : ℕ) (name : GroupName)
    → AtEach (λ r past. time_at (r ∷ past) ≤ asked_at past + slack → BeginsOnTime slack config name r past) (past_of history)

-- ---- nobody waits longer

-- since when a label set waits for a begin of a group: its first insert since the group was begun last
abbrev pub waits_since : GroupName → List Label → Past → Option ℕ
waits_since name labels [] = None
waits_since name labels (r ∷ past) =
    if takes name r.reply then None
    else option_or (waits_since name labels past) (if inserts labels r.call then Some (time_at (r ∷ past)) else None)

-- by when a group is begun that has an alert since a time, and was begun last then: a wait after that time, if it wasn't begun; else when
-- both its interval and the hold are over
abbrev pub latest : Config → GroupName → ℕ → ℕ → Option ℕ → ℕ
latest config name hold since None = since + wait_of config name
latest config name hold since (Some begun) = begun + max (route_of config name).group_interval hold

-- where a record and those since the last begin of a group are on time for it, the record comes no later than the slack after the latest
-- time for whoever waits for a begin of the group
abbrev pub WaitsInTime : ℕ → ℕ → Config → GroupName → Record → Past → Type 0
WaitsInTime slack hold config name r past =
    IsOnTime slack hold config name r past → WasOnTime slack hold config name past
    → (labels : List Label) → goes_to config name labels ≡ true
    → IfSome (waits_since name labels past)
    (λ since. time_at (r ∷ past) ≤ latest config name hold since (begun_at config name past) + slack)

-- each record does so, for any slack, hold and group
abbrev pub NobodyWaitsLonger : Config → List Record → Type 0
NobodyWaitsLonger config history = (slack hold : ℕ) (name : GroupName) → AtEach (WaitsInTime slack hold config name) (past_of history)

-- ---- pages come in time

-- what holds of some record and the records before it
abbrev pub AtSome : (Record → Past → Type 0) → Past → Type 0
AtSome P [] = ⊥
AtSome P (r ∷ past) = P r past ⊎ AtSome P past

-- the records up to a time
abbrev pub past_until : ℕ → Past → Past
past_until x [] = []
past_until x (r ∷ past) = if nat_le (time_at (r ∷ past)) x then r ∷ past else past_until x past

-- by when a group is begun again that has an alert from x on
abbrev pub begun_by : Config → GroupName → ℕ → ℕ → Past → ℕ
begun_by config name hold x past = max x (latest config name hold x (begun_at config name (past_until x past)))

-- a record after x is on time for a group, and a label set is due a page of the group then
abbrev pub IsDueOnTime : ℕ → ℕ → Config → GroupName → List Label → ℕ → Record → Past → Type 0
IsDueOnTime slack hold config name labels x r past =
    x < time_at (r ∷ past)
    → IsOnTime slack hold config name r past × (is_due_a_page config name labels (time_at (r ∷ past)) past ≡ true)

-- a record begins a group, after x and by a time, and notifies each integration of its receiver of a label set, or it has heard of it
pub record IsBegunFor (config : Config) (name : GroupName) (labels : List Label) (x by : ℕ) (r : Record) (past : Past) : Type 0 where
  pub taken : takes name r.reply ≡ true
  pub after : x < time_at (r ∷ past)
  pub in_time : time_at (r ∷ past) ≤ by
  pub reached : All
      (λ i. (pages i.0 labels r.reply ≡ true) ⊎ HasHeard config name i.0 labels (time_at (r ∷ past)) past) (integrations_of config name)

-- where a label set is due a page from x on until after the latest time and the slack, and each record after x is on time, one of these
-- pages by then
abbrev pub PagesComeInTime : Config → List Record → Type 0
PagesComeInTime config history =
    (slack hold x : ℕ) (name : GroupName) (labels : List Label)
    → AtEach (IsDueOnTime slack hold config name labels x) (past_of history)
    → begun_by config name hold x (past_of history) + slack < time_at (past_of history)
    → AtSome (IsBegunFor config name labels x (begun_by config name hold x (past_of history) + slack)) (past_of history)

-- that is the longest of the wait, the interval and the hold after x, at most
abbrev pub WaitsAreBounded : Type 0
WaitsAreBounded =
    (config : Config) (name : GroupName) (hold x : ℕ) (past : Past)
    → begun_by config name hold x past ≤ x + max (wait_of config name) (max (route_of config name).group_interval hold)

-- ---- and are delivered in time

-- whether what the flush at the head notified an integration of succeeded, where its finish has these outcomes and this past
abbrev pub reaches : ℕ → ℕ → List (ℕ × Outcome) → Past → Past → Bool
reaches integration number outcomes finish_past [] = false
reaches integration number outcomes finish_past (r ∷ past) =
    list_all (λ n. not (n.integration == integration) || succeeded number outcomes finish_past n) (notices_in r.reply)

-- whether a call finishes a flush, and what this notified an integration of succeeded
abbrev pub finishes_for : ℕ → Past → Call → Bool
finishes_for integration past (Insert now alert) = false
finishes_for integration past (Silence now id matchers start end) = false
finishes_for integration past (Begin now) = false
finishes_for integration past (Finish now number outcomes) = reaches integration number outcomes past (begin_of number past)
finishes_for integration past (Maintain now) = false
finishes_for integration past (RemoveEmptyGroups now) = false
finishes_for integration past (Forget now) = false
finishes_for integration past (Load now row) = false
finishes_for integration past (Note now number i outcome) = false

-- where a record after x finishes a flush of a group, what this notified an integration of succeeded
abbrev pub Succeeds : GroupName → ℕ → ℕ → Record → Past → Type 0
Succeeds name integration x r past =
    x < time_at (r ∷ past) → is_finish_of name past r.call ≡ true → finishes_for integration past r.call ≡ true

-- a record after x and by a time reports delivered a notice of a group for an integration that lists a label set, or takes the group and
-- the integration has heard of the label set
pub record HearsBy (config : Config) (name : GroupName) (integration : ℕ) (labels : List Label) (x by : ℕ) (r : Record) (past : Past)
    : Type 0 where
  pub after : x < time_at (r ∷ past)
  pub in_time : time_at (r ∷ past) ≤ by
  pub reached : (reports_page name integration labels past r.call ≡ true)
      ⊎ ((takes name r.reply ≡ true) × HasHeard config name integration labels (time_at (r ∷ past)) past)

-- where a label set is due a page from x on until after the latest time, the slack and the hold, and each record after x is on time, each
-- integration of the receiver is notified by then for which each flush of the group that is finished after x succeeds
abbrev pub PagesAreDeliveredInTime : Config → List Record → Type 0
PagesAreDeliveredInTime config history =
    (slack hold x : ℕ) (name : GroupName) (labels : List Label)
    → AtEach (IsDueOnTime slack hold config name labels x) (past_of history)
    → begun_by config name hold x (past_of history) + slack + hold < time_at (past_of history)
    → All (λ i. AtEach (Succeeds name i.0 x) (past_of history)
    → AtSome (HearsBy config name i.0 labels x (begun_by config name hold x (past_of history) + slack + hold)) (past_of history))
    (integrations_of config name)
