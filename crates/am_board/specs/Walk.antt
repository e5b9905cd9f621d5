-- Walk: what a walk over the alerts of a group finds, by what mutes each of them.
use Rattle.std.specs.Prelude.{◌≡◌, ℕ, Bool, List, [], ◌∷◌, Option, Some, None, map, slice_get, if◌then◌else◌}
use Rattle.std.specs.List.{cons_option, filter_map}
use Rattle.std.specs.Option.{option_and_then, option_map}
use Rattle.am_alerts.specs.AlertData.{AlertData, is_resolved}
use Rattle.am_mute.specs.Inhibit.{RuleData}
use Rattle.am_mute.specs.Mute.{mute_cause_of}
use Rattle.am_mute.specs.declared.mute.MuteCause.{MuteCause}
use Rattle.am_model.specs.Begin.{copied}
use Rattle.am_model.specs.State.{State}
use Rattle.am_model.specs.declared.preview.MutedAlert.{MutedAlert}
use Rattle.am_board.specs.Beginning.{copies_at, firing_among, resolved_among}
use Rattle.am_board.specs.Look.{state_seen}
use Rattle.am_board.specs.Members.{labels_of}
use Rattle.am_board.specs.Order.{indexes_in_order}
use Rattle.am_board.specs.declared.group.Member.{Member}
use Rattle.am_board.specs.declared.look.Look.{Look}
use Rattle.am_board.specs.declared.walk.MutedIndex.{MutedIndex}
use Rattle.am_board.specs.declared.walk.Walk.{Walk}

-- ---- one alert

-- what mutes an alert under these rules, if anything does
abbrev pub cause_for : List RuleData → State → ℕ → AlertData → Option MuteCause
cause_for rules s t a = mute_cause_of a.labels t s.silences rules s.known

-- an alert as it is listed among those that fire: not if this mutes it
abbrev pub firing_if : ℕ → AlertData → Option MuteCause → List AlertData
firing_if t a None = if is_resolved a t then [] else copied t a ∷ []
firing_if t a (Some cause) = []

-- an alert as it is listed among those that are resolved: not if this mutes it
abbrev pub resolved_if : ℕ → AlertData → Option MuteCause → List AlertData
resolved_if t a None = if is_resolved a t then copied t a ∷ [] else []
resolved_if t a (Some cause) = []

-- the muted alert at an index, if this mutes it
abbrev pub muted_if : ℕ → Option MuteCause → Option MutedIndex
muted_if index cause = option_map (λ c. record { index = index; cause = c }) cause

-- the same, as a walk lists it that wants causes or not
abbrev pub listed_if : Bool → ℕ → Option MuteCause → List MutedIndex
listed_if causes index cause = if causes then cons_option (muted_if index cause) [] else []

-- what mutes an alert of a group under these rules, if anything does
abbrev pub cause_of : List RuleData → State → ℕ → Member → Option MuteCause
cause_of rules s t m = cause_for rules s t m.alert

-- the same, under the rules and in the state that are looked at
abbrev pub cause_seen : Look → Member → Option MuteCause
cause_seen look = cause_of look.config.now.rules (state_seen look) look.t

-- the muted alert at an index among members, where these are their causes
abbrev pub muted_at : (Member → Option MuteCause) → List Member → ℕ → Option MutedIndex
muted_at causes members index = option_and_then (λ m. muted_if index (causes m)) (slice_get members index)

-- a muted alert as a preview lists it, if its index is one among members
abbrev pub alert_there : List Member → MutedIndex → Option MutedAlert
alert_there members found = option_map (λ m. record { labels = m.alert.labels; cause = found.cause }) (slice_get members found.index)

-- a member as a preview lists it, if it is muted
abbrev pub muted_member : (Member → Option MuteCause) → Member → Option MutedAlert
muted_member causes m = option_map (λ c. record { labels = m.alert.labels; cause = c }) (causes m)

-- ---- a group

-- what a walk finds at these indexes among members; `causes`: whether it also finds why alerts are muted
pub record AreFound (rules : List RuleData) (s : State) (t : ℕ) (members : List Member) (indexes : List ℕ)
    (causes : Bool) (walk : Walk) : Type 0 where
  pub firing : copies_at t walk.firing.items ≡ firing_among rules s t (filter_map (slice_get members) indexes)
  pub resolved : copies_at t walk.resolved.items ≡ resolved_among rules s t (filter_map (slice_get members) indexes)
  pub muted : walk.muted.items ≡ (if causes then filter_map (muted_at (cause_of rules s t) members) indexes else [])

-- what is found at these indexes among members, where a begin looks
abbrev pub AreSeen : Look → List Member → List ℕ → Walk → Type 0
AreSeen look members indexes = AreFound look.config.now.rules (state_seen look) look.t members indexes look.why

-- what a walk over members finds, in the order of their labels
abbrev pub IsWalk : Look → List Member → Walk → Type 0
IsWalk look members = AreSeen look members (indexes_in_order (map labels_of members))
