-- Forget: known alerts that are resolved and in no group go, and silences that are over.
use Rattle.std.specs.Prelude.{ℕ, Bool, not, ◌&&◌, List, count_by}
use Rattle.std.specs.List.{list_any}
use Rattle.am_alerts.specs.AlertData.{AlertData, is_resolved}
use Rattle.am_mute.specs.Silence.{is_over}
use Rattle.am_model.specs.declared.record.Forgotten.{Forgotten}
use Rattle.am_model.specs.Insert.{same_alert}
use Rattle.am_model.specs.Lists.{without}
use Rattle.am_model.specs.State.{GroupState, State}

-- whether an alert's label set is in one of these groups
abbrev pub is_grouped : List GroupState → AlertData → Bool
is_grouped groups a = list_any (λ g. list_any (λ m. same_alert a m.alert) g.members) groups

-- whether a known alert is idle at t: resolved, and in no group
abbrev pub is_idle : List GroupState → ℕ → AlertData → Bool
is_idle groups t a = is_resolved a t && not (is_grouped groups a)

-- the reply to a forgetting at t: how many known alerts and how many silences go
abbrev pub forgotten : State → ℕ → Forgotten
forgotten s t =
    record { alerts = count_by (is_idle s.groups t) s.known; silences = count_by (is_over t) s.silences }

-- the state after a forgetting at t: known alerts that are idle go, and so do silences that are over (Alertmanager's GC of alerts, save
-- that there one of a group goes too, and of silences, without its retention)
abbrev pub after_forget : State → ℕ → State
after_forget s t =
    record s { clock = t; known = without (is_idle s.groups t) s.known; silences = without (is_over t) s.silences }
