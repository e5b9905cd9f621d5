-- Finishing: between the code of a finish or a note and the definitions. What they put into the stored log.
use Rattle.std.specs.Prelude.{◌≡◌, ℕ, ◌+◌, ◌==◌, Bool, true, not, ◌&&◌, List}
use Rattle.std.specs.Prelude.{map, filter, fold, position, slice_set, slice_index_or, Option, Some, None, IsSome}
use Rattle.am_alerts.specs.Labels.{same_label_set}
use Rattle.am_alerts.specs.declared.labels.Label.{Label}
use Rattle.am_nflog.specs.Log.{Slots, is_known}
use Rattle.am_nflog.specs.declared.key.LogKey.{LogKey}
use Rattle.am_retry.specs.declared.outcome.Outcome.{Outcome}
use Rattle.am_board.specs.declared.flush.Notified.{Notified}
use Rattle.am_board.specs.declared.flush.LeavingAlert.{LeavingAlert}
use Rattle.am_board.specs.declared.flush.OpenFlush.{OpenFlush}
use Rattle.am_board.specs.declared.flush.AlertSets.{AlertSets}
use Rattle.am_board.specs.declared.group.Member.{Member}
use Rattle.am_model.specs.declared.group.GroupName.{GroupName}
use Rattle.am_model.specs.declared.views.RowView.{RowView}
use Rattle.am_model.specs.Finish.{has_succeeded, is_leaving, log_with}
use Rattle.am_model.specs.Lists.{without}
use Rattle.am_board.specs.Refinement.{notified_state_of, stamped}
use Rattle.am_model.specs.Note.{is_ready}
use Rattle.am_model.specs.State.{NotifiedState, GroupState, MemberState, same_name}

-- the row of a key that was reported this at t and is kept for so long
abbrev pub row_of_sets : LogKey GroupName → AlertSets → ℕ → ℕ → RowView
row_of_sets key sets t kept_for =
    record {
      group = key.group;
      integration = key.integration;
      time = t;
      expiry = t + kept_for;
      firing = sets.firing;
      resolved = sets.resolved;
    }

-- the row of an integration of a kept flush at t
abbrev pub row_for : OpenFlush → ℕ → ℕ → RowView
row_for f t integration = row_of_sets (record { group = f.group; integration = integration }) f.sets t f.kept_for

-- those of the notified integrations whose success a finish logs
abbrev pub logged_of : List (ℕ × Outcome) → List Notified → List NotifiedState
logged_of outcomes notified = filter (λ a. has_succeeded outcomes a && not a.noted) (map notified_state_of notified)

-- the rows of a log with those of the notified integrations of a kept flush whose success a finish at t logs
abbrev pub rows_with : OpenFlush → ℕ → List (ℕ × Outcome) → List Notified → List RowView → List RowView
rows_with f t outcomes notified rows =
    fold (λ log a. log_with (row_for f t a.integration) log) rows (logged_of outcomes notified)

-- whether an alert of a group is as it was when it was found resolved
abbrev pub is_same_as : LeavingAlert → Member → Bool
is_same_as l m = same_label_set l.labels m.alert.labels && (l.stamp == m.stamp)

-- an alert of a group that is marked to leave
abbrev pub marked : Member → Member
marked m = record { alert = m.alert; stamp = m.stamp; leaves = true }

-- whether a member leaves its group: all succeeded, and it is one that was found resolved
abbrev pub leaves_where : Bool → List LeavingAlert → MemberState → Bool
leaves_where all_succeeded leaving m = all_succeeded && is_leaving (map stamped leaving) m

-- a group without the members that leave it
abbrev pub without_leaving : Bool → List LeavingAlert → GroupState → GroupState
without_leaving all_succeeded leaving g = record g { members = without (leaves_where all_succeeded leaving) g.members }

-- the same keys are known in two logs
abbrev pub KnowTheSame : Slots GroupName (List Label) → Slots GroupName (List Label) → Type 0
KnowTheSame log other = (key : LogKey GroupName) → is_known same_name log key ≡ is_known same_name other key

-- an integration that a kept flush notified is at this index, is ready with this outcome, and isn't noted yet
pub record IsReadyAt (f : OpenFlush) (integration : ℕ) (outcome : Option Outcome) (a : ℕ) : Type 0 where
  pub index : position (λ x. x.key.integration == integration) f.notified.items ≡ Some a
  pub ready : (d : Notified) → is_ready outcome (notified_state_of (slice_index_or f.notified.items a d)) ≡ true
  pub sets : (d : Notified) → IsSome (slice_index_or f.notified.items a d).sets

-- an integration that was notified, without what its log row was to hold
abbrev pub without_sets : Notified → Notified
without_sets a = record { key = a.key; nothing = a.nothing; sets = None }

-- the integration at an index of a kept flush was noted
pub record IsNotedAt (a : ℕ) (old new : OpenFlush) : Type 0 where
  pub number : new.number ≡ old.number
  pub group : new.group ≡ old.group
  pub kept_for : new.kept_for ≡ old.kept_for
  pub sets : new.sets ≡ old.sets
  pub leaving : new.leaving ≡ old.leaving
  pub notified : (d : Notified) → new.notified.items ≡ slice_set old.notified.items a (without_sets (slice_index_or old.notified.items a d))
