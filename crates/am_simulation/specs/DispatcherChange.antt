-- DispatcherChange: what a new dispatcher of a rehearsal is given before its own plans.
use Rattle.std.specs.Prelude.{ℕ, ◌+◌, ◌==◌, ◌&&◌, Bool, true, false, not, nat_lt, List, [], ◌∷◌}
use Rattle.std.specs.Prelude.{map, Option, Some, None, if◌then◌else◌}
use Rattle.std.specs.List.{list_any}
use Rattle.am_alerts.specs.Labels.{same_label_set}
use Rattle.am_model.specs.declared.views.RowView.{RowView}
use Rattle.am_mute.specs.Silence.{is_over}
use Rattle.am_terms.specs.declared.dispatcher_change.Carryover.{Carryover}
use Rattle.am_terms.specs.declared.dispatcher_change.Carryover.TheVariants.{All, Log, Nothing}
use Rattle.am_terms.specs.declared.rehearsal.Action.{Action}
use Rattle.am_terms.specs.declared.rehearsal.Action.TheVariants.{Insert, Silence, Load}
use Rattle.am_terms.specs.declared.rehearsal.TimedAction.{TimedAction}

-- how long after its end a resolved alert still comes to a new dispatcher, in milliseconds: Alertmanager's own alerts are collected each
-- 30 minutes (mem.Alerts), and Prometheus sends a resolved alert again for 15 (rules.resolvedRetention)
abbrev pub window_of : Carryover → ℕ
window_of All = 1_800_000
window_of Log = 900_000
window_of Nothing = 900_000

-- whether silences are kept
abbrev pub carries_silences : Carryover → Bool
carries_silences All = true
carries_silences Log = true
carries_silences Nothing = false

-- whether an alert that has this end, or none, fires at a time, or ended less than a window before it
abbrev pub is_recent : ℕ → ℕ → Option ℕ → Bool
is_recent window at None = true
is_recent window at (Some end) = nat_lt at (end + window)

-- whether an action still counts at a time: an alert that fires or ended just before, or a silence that isn't over
abbrev pub still_counts : Carryover → ℕ → Action → Bool
still_counts carryover at (Insert alert) = is_recent (window_of carryover) at alert.ends
still_counts carryover at (Silence silence) = carries_silences carryover && not (is_over at silence)
still_counts carryover at (Load row) = false

-- whether an action replaces an earlier one: an alert of the same label set, or a silence of the same id
abbrev pub replaces : Action → Action → Bool
replaces (Insert later) (Insert alert) = same_label_set later.labels alert.labels
replaces (Insert later) (Silence silence) = false
replaces (Insert later) (Load row) = false
replaces (Silence later) (Insert alert) = false
replaces (Silence later) (Silence silence) = later.id == silence.id
replaces (Silence later) (Load row) = false
replaces (Load later) act = false

-- whether one of these plans replaces an action
abbrev pub is_replaced : Action → List TimedAction → Bool
is_replaced act later = list_any (λ p. replaces p.act act) later

-- whether an action before these plans is set again at a time: it still counts, and none of them replaces it
abbrev pub is_kept : Carryover → ℕ → Action → List TimedAction → Bool
is_kept carryover at act later = not (is_replaced act later) && still_counts carryover at act

-- an action, planned for a time
abbrev pub planned_at : ℕ → Action → TimedAction
planned_at at act = record { at = at; act = act }

-- what is set again of these plans, each at this time, in their order
abbrev pub set_again : Carryover → ℕ → List TimedAction → List TimedAction
set_again carryover at [] = []
set_again carryover at (p ∷ ps) =
    if is_kept carryover at p.act ps then planned_at at p.act ∷ set_again carryover at ps else set_again carryover at ps

-- loads of these log rows at a time
abbrev pub loads : ℕ → List RowView → List TimedAction
loads at rows = map (λ row. planned_at at (Load row)) rows
