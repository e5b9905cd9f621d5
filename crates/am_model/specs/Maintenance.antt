-- Upkeep: the calls silence, maintain and remove_empty_groups.
use Rattle.std.specs.Prelude.{ℕ, Bool, ◌==◌, nat_le, count_by}
use Rattle.std.specs.List.{list_any}
use Rattle.am_mute.specs.Silence.{SilenceData}
use Rattle.am_nflog.specs.Members.{is_empty}
use Rattle.am_model.specs.declared.record.EmptyGroupsRemoved.{EmptyGroupsRemoved}
use Rattle.am_model.specs.declared.record.Maintained.{Maintained}
use Rattle.am_model.specs.declared.record.Silenced.{Silenced}
use Rattle.am_model.specs.declared.views.RowView.{RowView}
use Rattle.am_model.specs.Lists.{upsert, without}
use Rattle.am_model.specs.State.{GroupState, State}

-- whether two silences have one id
abbrev pub same_silence : SilenceData → SilenceData → Bool
same_silence a b = a.id == b.id

-- the reply to a silence: whether there is one with its id, which it replaces
abbrev pub silenced : State → SilenceData → Silenced
silenced s silence = record { replaced = list_any (same_silence silence) s.silences }

-- the state after a silence at t
abbrev pub after_silence : State → ℕ → SilenceData → State
after_silence s t silence = record s { clock = t; silences = upsert same_silence silence s.silences }

-- whether a group has no alerts
abbrev pub has_no_alerts : GroupState → Bool
has_no_alerts g = is_empty g.members

-- whether a row's expiry is reached at t
abbrev pub has_expired : ℕ → RowView → Bool
has_expired t row = nat_le row.expiry t

-- the reply to a maintenance at t: how many groups and how many rows go
abbrev pub maintained : State → ℕ → Maintained
maintained s t = record { groups = count_by has_no_alerts s.groups; entries = count_by (has_expired t) s.rows }

-- the state after a maintenance at t: groups without alerts go, and so do expired rows (Alertmanager's dispatch maintenance, and its
-- nflog's GC)
abbrev pub after_maintain : State → ℕ → State
after_maintain s t =
    record s { clock = t; groups = without has_no_alerts s.groups; rows = without (has_expired t) s.rows }

-- the reply to a removal of empty groups: how many groups go
abbrev pub empty_groups_removed : State → EmptyGroupsRemoved
empty_groups_removed s = record { groups = count_by has_no_alerts s.groups }

-- the state after a removal of empty groups at t: groups without alerts go, and nothing else (Alertmanager's dispatch maintenance)
abbrev pub after_removal : State → ℕ → State
after_removal s t = record s { clock = t; groups = without has_no_alerts s.groups }
