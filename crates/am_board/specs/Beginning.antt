-- Beginning: between the code of a begin and the definition Begin. What it finds in its group, and the flush that it opens.
use Rattle.std.specs.Prelude.{◌≡◌, ℕ, ◌&&◌, true, false, Bool, IsTrue, List, [], filter, map, Some, if◌then◌else◌, ◌≢◌, ◌*◌, ◌≤◌, ◌<◌, ◌⊎◌}
use Rattle.std.specs.Prelude.{min}
use Rattle.std.specs.Prelude.{IfSome, All, MatchResult, Option, None, Result, Ok, Err, vec_len, vec_capacity, ◌+◌, not, nat_le, length}
use Rattle.std.specs.Prelude.{slice_index_or}
use Rattle.std.specs.Borrow.{Bor}
use Rattle.am_alerts.specs.AlertData.{AlertData, is_resolved}
use Rattle.am_alerts.specs.Labels.{label_set_cmp}
use Rattle.am_alerts.specs.declared.labels.Label.{Label}
use Rattle.am_mute.specs.Inhibit.{RuleData}
use Rattle.am_mute.specs.Mute.{is_muted}
use Rattle.am_nflog.specs.Members.{is_ascending, is_empty}
use Rattle.am_board.specs.Due.{key_of}
use Rattle.am_board.specs.DueOrder.{has_key, IsKeyBehind}
use Rattle.am_board.specs.declared.due.DueKey.{DueKey}
use Rattle.am_board.specs.declared.dedup.Update.{Update}
use Rattle.am_model.specs.declared.config.Config.{Config}
use Rattle.am_model.specs.declared.config.Integration.{Integration}
use Rattle.am_board.specs.declared.flush.Notified.{Notified}
use Rattle.am_board.specs.declared.flush.LeavingAlert.{LeavingAlert}
use Rattle.am_board.specs.declared.flush.OpenFlush.{OpenFlush}
use Rattle.am_board.specs.declared.flush.AlertSets.{AlertSets}
use Rattle.am_board.specs.declared.unmuted.Unmuted.{Unmuted}
use Rattle.am_board.specs.declared.unmuted.UnmutedMembers.{UnmutedMembers}
use Rattle.am_board.specs.declared.group.Group.{Group}
use Rattle.am_model.specs.declared.group.GroupName.{GroupName}
use Rattle.am_board.specs.declared.group.Member.{Member}
use Rattle.am_model.specs.Begin.{copied, firing_of, resolved_of, label_sets, notified_of, deadline_of, flush_notifying, notice_for}
use Rattle.am_model.specs.Begin.{due_cmp, taken}
use Rattle.am_model.specs.Causes.{begin_cause}
use Rattle.am_model.specs.declared.preview.Preview.{Preview}
use Rattle.am_model.specs.look_back.Preview.{preview_at}
use Rattle.am_model.specs.Notice.{NoticeData}
use Rattle.am_board.specs.Refinement.{member_state, flush_state, state_of, group_state}
use Rattle.am_model.specs.Lists.{without, least}
use Rattle.am_model.specs.State.{GroupState, State, FlushState, time, is_flushing}
use Rattle.am_model.specs.declared.fault.Fault.{Fault}
use Rattle.am_model.specs.declared.fault.Fault.TheVariants.{NoMemory, TooManyOpen}
use Rattle.am_board.specs.declared.plan.PlannedFlush.{PlannedFlush}
use Rattle.am_model.specs.Configured.{route_of}
use Rattle.am_board.specs.declared.begin.Begun.{Begun}
use Rattle.am_board.specs.declared.begin.BeginCall.{BeginCall}
use Rattle.am_board.specs.declared.begin.ChosenGroup.{ChosenGroup}
use Rattle.am_model.specs.declared.record.Call.TheVariants.{Begin}
use Rattle.am_board.specs.declared.state.State as kept
use Rattle.am_model.specs.Records.{entry}
use Rattle.am_board.specs.History.{reply_of, IsFresh}
use Rattle.am_board.specs.Step.{AppliesCall, LeavesUnchanged, IsAnswer}

-- ---- what is unmuted in a group

-- the copy of members, without those that are muted under these rules
abbrev pub copy_among : List RuleData → State → ℕ → List Member → List AlertData
copy_among rules s t members =
    without (λ a. is_muted a.labels t s.silences rules s.known) (map (λ m. copied t m.alert) (map member_state members))

-- the alerts of the copy that fire
abbrev pub firing_among : List RuleData → State → ℕ → List Member → List AlertData
firing_among rules s t members = without (λ a. is_resolved a t) (copy_among rules s t members)

-- the alerts of the copy that are resolved
abbrev pub resolved_among : List RuleData → State → ℕ → List Member → List AlertData
resolved_among rules s t members = filter (λ a. is_resolved a t) (copy_among rules s t members)

-- what is unmuted in a group at t is what the definitions give
pub record IsUnmuted (config : Config) (s : State) (t : ℕ) (g : GroupState) (unmuted : Unmuted) : Type 0 where
  pub firing : unmuted.firing ≡ firing_of config s t g
  pub resolved : unmuted.resolved ≡ resolved_of config s t g

-- what a flush at t copies of members that are lent
abbrev pub copies_at : ℕ → List (Bor Member) → List AlertData
copies_at t members = map (λ m. copied t m.now.alert) members

-- the label set of a member that is lent
abbrev pub lent_labels : Bor Member → List Label
lent_labels m = m.now.alert.labels

-- what a flush at t copies of what is unmuted
abbrev pub copies_of : ℕ → UnmutedMembers → Unmuted
copies_of t found = record { firing = copies_at t found.firing.items; resolved = copies_at t found.resolved.items }

-- the label sets of what is unmuted
abbrev pub alert_sets_of : Unmuted → AlertSets
alert_sets_of unmuted = record { firing = label_sets unmuted.firing; resolved = label_sets unmuted.resolved }

-- the label sets of what is unmuted rise strictly
pub record AreRising (unmuted : Unmuted) : Type 0 where
  pub firing : IsTrue (is_ascending label_set_cmp (label_sets unmuted.firing))
  pub resolved : IsTrue (is_ascending label_set_cmp (label_sets unmuted.resolved))

-- an integration that is notified, without what it is
abbrev pub update_of : ℕ × Integration → Update
update_of i = record { integration = i.0; send_resolved = i.1.send_resolved }

-- the resolved alerts that are sent, if any are
abbrev pub sent_where : Bool → Unmuted → List AlertData
sent_where send_resolved unmuted = if send_resolved then unmuted.resolved else []

-- the notice for an integration that is notified
abbrev pub notice_of_update : ℕ → ℕ → ℕ → GroupName → Unmuted → Update → NoticeData
notice_of_update board_id ticket deadline group unmuted update =
    record {
      board_id = board_id;
      ticket = ticket;
      deadline = deadline;
      group = group;
      integration = update.integration;
      firing = unmuted.firing;
      resolved = sent_where update.send_resolved unmuted;
    }

-- an integration that is notified, with what its log row is to hold
abbrev pub notified_for_update : GroupName → Unmuted → Update → Notified
notified_for_update group unmuted update =
    record {
      key = record { group = group; integration = update.integration };
      nothing = is_empty unmuted.firing && is_empty (sent_where update.send_resolved unmuted);
      sets = Some (alert_sets_of unmuted);
    }

-- a member as it leaves
abbrev pub leaving_member : Member → LeavingAlert
leaving_member m = record { labels = m.alert.labels; stamp = m.stamp }

-- a flush of a group at t, of this number, with what is unmuted, that notifies these integrations
pub record IsFlushNotifying (n kept : ℕ) (g : Group) (unmuted : Unmuted) (updates : List Update) (t : ℕ) (f : OpenFlush) : Type 0 where
  pub number : f.number ≡ n
  pub kept_for : f.kept_for ≡ kept
  pub group : f.group ≡ g.name
  pub notified : f.notified.items ≡ map (notified_for_update g.name unmuted) updates
  pub sets : f.sets ≡ alert_sets_of unmuted
  pub leaving : f.leaving.items ≡ map leaving_member (filter (λ m. is_resolved m.alert t) g.members.items)

-- ---- the flush that is opened, before it is put into the state

-- what an integration's log row is to hold is there, and its key is of the flush's group
pub record IsSpare (f : OpenFlush) (a : Notified) : Type 0 where
  pub group : a.key.group ≡ f.group
  pub sets : IfSome a.sets (λ sets. sets ≡ f.sets)

-- what the begin at t of the flush of a group puts into the board and the ticket, where the board has this id
pub record IsPlannedFlush (config : Config) (id : ℕ) (s : State) (t : ℕ) (g : GroupState) (o : PlannedFlush) : Type 0 where
  pub flush : flush_state o.flush ≡ flush_notifying config s t g (notified_of config s t g)
  pub kept_for : o.flush.kept_for ≡ min config.retention (2 * (route_of config g.name).repeat_interval)
  pub spare : All (IsSpare o.flush) o.flush.notified.items
  pub number : o.number ≡ s.next_number
  pub deadline : o.deadline ≡ deadline_of config t g
  pub group : o.group ≡ g.name
  pub recorded_group : o.recorded_group ≡ g.name
  pub notices : o.notices.items ≡ map (notice_for config id s t g) (notified_of config s t g)
  pub recorded : o.recorded ≡ record { number = o.number; deadline = o.deadline; notices = o.notices.items }
  pub outcomes : o.outcomes.items ≡ []
  pub none : vec_len o.outcomes ≡ 0
  pub space : vec_len o.notices ≤ vec_capacity o.outcomes

-- the plan of a begin at t that takes a group: nobody is notified, or a flush is opened, and the limit allows one more
abbrev pub IsPlan : Config → ℕ → ℕ → State → ℕ → GroupState → Result (Option PlannedFlush) Fault → Type 0
IsPlan config id opened s t g (Ok None) = notified_of config s t g ≡ []
IsPlan config id opened s t g (Ok (Some o)) =
    (notified_of config s t g ≢ []) × (opened < config.limits.flushes) × IsPlannedFlush config id s t g o
IsPlan config id opened s t g (Err fault) =
    (fault ≡ NoMemory) ⊎ ((fault ≡ TooManyOpen) × (notified_of config s t g ≢ []) × (config.limits.flushes ≤ opened))

-- ---- the group that is taken, and how the begin may end

-- whether a group can be taken at t where these flushes are open
abbrev pub may_take : List FlushState → ℕ → GroupState → Bool
may_take flushes t g = nat_le g.due t && not (is_flushing flushes g.name)

-- the group of these that is taken at t where these flushes are open
abbrev pub first_of : List FlushState → ℕ → List GroupState → Option GroupState
first_of flushes t groups = least due_cmp (filter (may_take flushes t) groups)

-- the group at this index is the first, or there is none
abbrev pub IsFirst : List Group → Option ℕ → Option GroupState → Type 0
IsFirst groups None first = first ≡ None
IsFirst groups (Some i) first = (d : Group) → first ≡ Some (group_state (slice_index_or groups i d))

-- of the groups that can be taken and have their key among these, the one at this index is the first;
-- with no index, there is no such group
abbrev pub IsFirstOfKeys : List FlushState → ℕ → List Group → List DueKey → Option ℕ → Type 0
IsFirstOfKeys flushes t groups keys None =
    All (λ g. may_take flushes t (group_state g) ≡ true → has_key keys (key_of g) ≡ false) groups
IsFirstOfKeys flushes t groups keys (Some i) =
    (i < length groups)
    × ((d : Group) → may_take flushes t (group_state (slice_index_or groups i d)) ≡ true)
    × ((d : Group) → All (λ g. may_take flushes t (group_state g) ≡ true → IsTrue (has_key keys (key_of g))
    → IsKeyBehind (key_of (slice_index_or groups i d)) (key_of g)) groups)

-- a begin takes this group, at the time of the call
pub record IsChosen (config : Config) (s : kept.State) (chosen : ChosenGroup) (g : Group) : Type 0 where
  pub time : chosen.t ≡ time (state_of s) chosen.call.now
  pub index : chosen.index < length s.groups.items
  pub group : (d : Group) → slice_index_or s.groups.items chosen.index d ≡ g
  pub first : taken (state_of s) chosen.t ≡ Some (group_state g)
  pub due : chosen.due ≡ chosen.t + (route_of config g.name).group_interval

-- a begin takes a group of the state
pub record IsTaking (config : Config) (s : kept.State) (c : ChosenGroup) : Type 0 where
  pub group : Group
  pub chosen : IsChosen config s c group

-- what a call takes: a group, or none where none can be taken
abbrev pub IsChoice : Config → kept.State → BeginCall → Option ChosenGroup → Type 0
IsChoice config s call None = taken (state_of s) (time (state_of s) call.now) ≡ None
IsChoice config s call (Some chosen) = (chosen.call ≡ call) × IsTaking config s chosen

-- a begin was accepted, and its record is kept
abbrev pub AppliesBegin : Config → BeginCall → Begun → kept.State → kept.State → Type 0
AppliesBegin config call begun = AppliesCall config call.id (entry call.pass (Begin call.now) (reply_of begun))

-- how a begin ends for which nothing but memory can be wanting
abbrev pub IsEnd : Config → BeginCall → kept.State → kept.State → Result Begun Fault → Type 0
IsEnd config call old new (Ok begun) = AppliesBegin config call begun old new × IsFresh call.id begun
IsEnd config call old new (Err fault) = (fault ≡ NoMemory) × LeavesUnchanged config old new

-- why a begin is refused, where memory does not lack
abbrev pub cause_of : Config → BeginCall → kept.State → Option Fault
cause_of config call s = begin_cause config (vec_len s.history) (state_of s) (time (state_of s) call.now)

-- a begin was accepted, or it was refused with its cause
abbrev pub Begins : Config → BeginCall → kept.State → kept.State → Result Begun Fault → Type 0
Begins config call old new result =
    MatchResult result
    (λ begun. (cause_of config call old ≡ None) × AppliesBegin config call begun old new × IsFresh call.id begun)
    (λ fault. IsAnswer (cause_of config call old) fault × LeavesUnchanged config old new)

-- the same, and what a preview shows is returned with the reply, if it is wanted why
abbrev pub BeginsShown : Config → BeginCall → Bool → kept.State → kept.State → Result (Begun × Option Preview) Fault → Type 0
BeginsShown config call why old new result =
    MatchResult result
    (λ both. (cause_of config call old ≡ None)
    × AppliesBegin config call both.0 old new
    × (IsFresh call.id both.0 × (both.1 ≡ (if why then preview_at config (state_of old) (time (state_of old) call.now) else None))))
    (λ fault. IsAnswer (cause_of config call old) fault × LeavesUnchanged config old new)

-- the reply to a begin, with what is shown of it
abbrev pub with_preview : Result Begun Fault → Option Preview → Result (Begun × Option Preview) Fault
with_preview (Ok begun) preview = Ok (begun, preview)
with_preview (Err fault) preview = Err fault
