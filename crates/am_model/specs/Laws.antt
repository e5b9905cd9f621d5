-- Laws: what is true after every history, and how a history's state goes record by record.
use Rattle.std.specs.Prelude.{◌≡◌, ◌≢◌, ℕ, ◌+◌, ◌<◌, ◌≤◌, ◌↔◌, length, min, max, Bool, true, false, IsTrue, All, List, [], ◌∷◌, ◌++◌, fold}
use Rattle.std.specs.Prelude.{not}
use Rattle.std.specs.Prelude.{Option, Some, None, ◌==◌, find, if◌then◌else◌}
use Rattle.std.specs.List.{list_any, IsDistinct}
use Rattle.std.specs.Option.{option_map}
use Rattle.am_alerts.specs.declared.limits.TheConstants.{MAX_TIME}
use Rattle.am_nflog.specs.Members.{is_empty}
use Rattle.am_model.specs.declared.config.Config.{Config}
use Rattle.am_model.specs.declared.group.GroupName.{GroupName}
use Rattle.am_model.specs.declared.record.Call.{Call}
use Rattle.am_model.specs.declared.record.Record.{Record}
use Rattle.am_model.specs.declared.record.Reply.{Reply}
use Rattle.am_model.specs.declared.record.Reply.TheVariants.{Inserted, Silenced, NothingDue, Quiet, Flush}
use Rattle.am_model.specs.declared.record.Reply.TheVariants.{Finished, Maintained, EmptyGroupsRemoved, Forgotten, Loaded, Noted}
use Rattle.am_model.specs.declared.fault.Fault.TheVariants.{TooManyOpen}
use Rattle.am_model.specs.Carry.{carried, is_led_to}
use Rattle.am_model.specs.Causes.{begin_cause}
use Rattle.am_model.specs.Load.{may_load}
use Rattle.am_model.specs.declared.views.RowView.{RowView}
use Rattle.am_model.specs.Records.{now_of}
use Rattle.am_model.specs.Configured.{route_of}
use Rattle.am_model.specs.Finish.{same_key}
use Rattle.am_model.specs.Forget.{after_forget}
use Rattle.am_model.specs.Insert.{same_alert, same_member, same_group, names_for}
use Rattle.am_model.specs.look_back.Entry.{row_in}
use Rattle.am_model.specs.Replay.{reply, after, after_call, replay, IsLegal}
use Rattle.am_model.specs.Maintenance.{same_silence}
use Rattle.am_model.specs.State.{MemberState, GroupState, NotifiedState, FlushState, State, opening_state, at_time, same_name}
use Rattle.am_model.specs.State.{has_group, members_in, time}
use Rattle.am_model.specs.Views.{row_views}

-- one record more is one step more
abbrev pub ReplayAppends : Type 0
ReplayAppends =
    (config : Config) (history : List Record) (r : Record)
    → replay config (history ++ r ∷ []) ≡ after config (replay config history) r

-- a history with one record more is legal where the history is, and the record's reply is the one that the definitions give after it
abbrev pub LegalAppends : Type 0
LegalAppends =
    (config : Config) (id : ℕ) (history : List Record) (r : Record)
    → IsLegal config id (history ++ r ∷ []) ↔ (IsLegal config id history × (reply config id (replay config history) r.call ≡ Some r.reply))

-- a beginning of a legal history is legal
abbrev pub BeginningsAreLegal : Type 0
BeginningsAreLegal =
    (config : Config) (id : ℕ) (beginning rest : List Record) → IsLegal config id (beginning ++ rest) → IsLegal config id beginning

-- time of a history: the greatest time that its calls handed in, each at most the greatest there is
abbrev pub time_of : List Record → ℕ
time_of history = fold (λ t r. max t (min (now_of r.call) MAX_TIME)) 0 history

-- each call leaves the clock at the history's time
abbrev pub ClockIsTime : Type 0
ClockIsTime = (config : Config) (history : List Record) → (replay config history).clock ≡ time_of history

-- the time of the last begin of a group since it was made, after a record that leaves the clock at t; a maintenance or a removal of
-- empty groups that finds the group without alerts ends it
abbrev pub last_begin_after : GroupName → State → ℕ → Option ℕ → Reply → Option ℕ
last_begin_after name s t last (Inserted inserted) = last
last_begin_after name s t last (Silenced silenced) = last
last_begin_after name s t last NothingDue = last
last_begin_after name s t last (Quiet group removed) = if same_name name group then Some t else last
last_begin_after name s t last (Flush group opened) = if same_name name group then Some t else last
last_begin_after name s t last (Finished finished) = last
last_begin_after name s t last (Maintained maintained) = if is_empty (members_in s.groups name) then None else last
last_begin_after name s t last (EmptyGroupsRemoved removed) = if is_empty (members_in s.groups name) then None else last
last_begin_after name s t last (Forgotten forgotten) = last
last_begin_after name s t last (Loaded loaded) = last
last_begin_after name s t last Noted = last

-- the same after some records, from a state on
abbrev pub last_begin_from : Config → GroupName → State → Option ℕ → List Record → Option ℕ
last_begin_from config name s last [] = last
last_begin_from config name s last (r ∷ rs) =
    last_begin_from config name (after config s r) (last_begin_after name s (after config s r).clock last r.reply) rs

-- the time of the last begin of a group in a history since the group was made, if it was begun since
abbrev pub last_begin : Config → GroupName → List Record → Option ℕ
last_begin config name history = last_begin_from config name opening_state None history

-- a group that was begun since it was made is flushed, and due an interval after its last begin; any other isn't flushed
abbrev pub IsBegunAt : Config → GroupState → Option ℕ → Type 0
IsBegunAt config g None = g.flushed ≡ false
IsBegunAt config g (Some t) = (g.flushed ≡ true) × (g.due ≡ t + (route_of config g.name).group_interval)

-- a group that was begun since it was made is there
abbrev pub IsThere : State → GroupName → Option ℕ → Type 0
IsThere s name None = Unit {0}
IsThere s name (Some t) = IsTrue (has_group s.groups name)

-- the groups of a history are due as their begins say, and no group that was begun goes but by a maintenance or a removal of
-- empty groups
pub record KeepsBegins (config : Config) (history : List Record) : Type 0 where
  pub due : All (λ g. IsBegunAt config g (last_begin config g.name history)) (replay config history).groups
  pub there : (name : GroupName) → IsThere (replay config history) name (last_begin config name history)

-- whether two flushes are of one group
abbrev pub same_flushed : FlushState → FlushState → Bool
same_flushed f g = same_name f.group g.group

-- whether two flushes have one number
abbrev pub same_number : FlushState → FlushState → Bool
same_number f g = f.number == g.number

-- whether two entries are of one integration
abbrev pub same_notified : NotifiedState → NotifiedState → Bool
same_notified a b = a.integration == b.integration

-- an open flush has a number that was given, asked some integrations, each once, and its group has alerts
pub record IsHeld (s : State) (f : FlushState) : Type 0 where
  pub number : f.number < s.next_number
  pub notified : IsTrue (not (is_empty f.notified))
  pub each_once : IsDistinct same_notified f.notified
  pub alive : IsTrue (not (is_empty (members_in s.groups f.group)))

-- what holds of the state after any list of records: no two of a kind are alike, and each open flush has its group
pub record IsConsistent (s : State) : Type 0 where
  pub clock : s.clock ≤ MAX_TIME
  pub known : IsDistinct same_alert s.known
  pub groups : IsDistinct same_group s.groups
  pub members : All (λ g. IsDistinct same_member g.members) s.groups
  pub stamps : All (λ g. All (λ m. m.stamp ≤ s.inserts) g.members) s.groups
  pub silences : IsDistinct same_silence s.silences
  pub rows : IsDistinct same_key s.rows
  pub flushes : IsDistinct same_flushed s.flushes
  pub numbers : IsDistinct same_number s.flushes
  pub held : All (IsHeld s) s.flushes

-- an alert of a group equals the known alert with its labels, and the group is among those to which it goes
pub record IsKnownMember (config : Config) (s : State) (g : GroupState) (m : MemberState) : Type 0 where
  pub known : find (same_alert m.alert) s.known ≡ Some m.alert
  pub routed : IsTrue (list_any (same_name g.name) (names_for config m.alert.labels))

-- an alert has the stamp of another with its labels
abbrev pub IsStampedAs : MemberState → MemberState → Type 0
IsStampedAs m n = IsTrue (same_member m n) → n.stamp ≡ m.stamp

-- each alert of each group is so, and has one stamp in all its groups
pub record KnowsMembers (config : Config) (s : State) : Type 0 where
  pub known : All (λ g. All (IsKnownMember config s g) g.members) s.groups
  pub stamps : All (λ g. All (λ m. All (λ o. All (IsStampedAs m) o.members) s.groups) g.members) s.groups

-- any list of records, legal or not, leaves such a state: a group has each of its alerts as it was last inserted
abbrev pub ReplaysKnowMembers : Type 0
ReplaysKnowMembers = (config : Config) (history : List Record) → KnowsMembers config (replay config history)

-- any list of records, legal or not, leaves such a state
abbrev pub ReplaysAreConsistent : Type 0
ReplaysAreConsistent = (config : Config) (history : List Record) → IsConsistent (replay config history)

-- where the limit of open flushes isn't below that of groups, no begin waits for a finish
abbrev pub FlushesNeverWait : Type 0
FlushesNeverWait =
    (config : Config) (records : ℕ) (s : State) (t : ℕ) → IsConsistent s → length s.groups ≤ config.limits.groups
    → config.limits.groups ≤ config.limits.flushes → begin_cause config records s t ≢ Some TooManyOpen

-- any list of records, legal or not, leaves rows that can be loaded under the same configuration, from the clock on
abbrev pub RowsMayBeLoaded : Type 0
RowsMayBeLoaded =
    (config : Config) (history : List Record) (t : ℕ) → (replay config history).clock ≤ t
    → All (λ row. may_load config t row ≡ true) (replay config history).rows

-- a change of the dispatcher: each row taken over for a shown one can be loaded at any state under the new configuration, by a
-- call that hands in the clock's time or a later one
abbrev pub DispatcherChangesMayBeLoaded : Type 0
DispatcherChangesMayBeLoaded =
    (old new : Config) (history : List Record) (s : State) (now : ℕ) → (replay old history).clock ≤ now
    → All (λ row. All (λ taken. may_load new (time s now) taken ≡ true) (carried old new row)) (row_views (replay old history))

-- each row that records load has an alert that goes to its group, as each that is taken over has
abbrev pub LoadsAreLed : Config → List Record → Type 0
LoadsAreLed config history = All (λ r. (row : RowView) → row_in r.call ≡ Some row → is_led_to config row ≡ true) history

-- then each row of the log has one
abbrev pub RowsAreLed : Type 0
RowsAreLed =
    (config : Config) (history : List Record) → LoadsAreLed config history
    → All (λ row. is_led_to config row ≡ true) (replay config history).rows

-- and a restart under the same configuration takes each row that is shown over as it is, and once
abbrev pub RestartsKeepRows : Type 0
RestartsKeepRows =
    (config : Config) (history : List Record) → LoadsAreLed config history
    → All (λ row. carried config config row ≡ row ∷ []) (row_views (replay config history))

-- a legal history keeps its begins
abbrev pub LegalKeepsBegins : Type 0
LegalKeepsBegins =
    (config : Config) (id : ℕ) (history : List Record) → IsLegal config id history → KeepsBegins config history

-- a reply without what a forgetting before it may change: whether a silence replaced one, and how many alerts and silences are forgotten
abbrev pub bare_reply : Reply → Reply
bare_reply (Inserted inserted) = Inserted inserted
bare_reply (Silenced silenced) = Silenced (record { replaced = false })
bare_reply NothingDue = NothingDue
bare_reply (Quiet group removed) = Quiet group removed
bare_reply (Flush group opened) = Flush group opened
bare_reply (Finished finished) = Finished finished
bare_reply (Maintained maintained) = Maintained maintained
bare_reply (EmptyGroupsRemoved removed) = EmptyGroupsRemoved removed
bare_reply (Forgotten forgotten) = Forgotten (record { alerts = 0; silences = 0 })
bare_reply (Loaded loaded) = Loaded loaded
bare_reply Noted = Noted

-- a state without what a forgetting changes
abbrev pub bare_state : State → State
bare_state s = record s { known = []; silences = [] }

-- the bare replies to calls, one after the other, from a state on
abbrev pub replies_from : Config → ℕ → State → List Call → List (Option Reply)
replies_from config id s [] = []
replies_from config id s (c ∷ cs) = option_map bare_reply (reply config id s c) ∷ replies_from config id (after_call config s c) cs

-- the state after these calls
abbrev pub state_from : Config → State → List Call → State
state_from config s calls = fold (after_call config) s calls

-- calls after a forgetting have the replies that they have where nothing was forgotten at its time, except for what bare replies leave out
abbrev pub ForgettingChangesNoReply : Type 0
ForgettingChangesNoReply =
    (config : Config) (id : ℕ) (s : State) (t : ℕ) (calls : List Call) → IsConsistent s
    → replies_from config id (after_forget s t) calls ≡ replies_from config id (at_time s t) calls

-- and they leave the same state, except for known alerts and silences
abbrev pub ForgettingChangesNoState : Type 0
ForgettingChangesNoState =
    (config : Config) (s : State) (t : ℕ) (calls : List Call) → IsConsistent s
    → bare_state (state_from config (after_forget s t) calls) ≡ bare_state (state_from config (at_time s t) calls)
