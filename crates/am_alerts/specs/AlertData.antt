-- Alerts.
use Rattle.std.specs.Prelude.{ℕ, Bool, false, ◌||◌, List, length, Option, Some, None, ◌==◌, nat_lt, nat_le, if◌then◌else◌}
use Rattle.am_alerts.specs.declared.labels.Label.{Label}
use Rattle.am_alerts.specs.declared.alert.AlertFault.{AlertFault}
use Rattle.am_alerts.specs.declared.alert.AlertFault.TheVariants.{NoLabels, BadTime, EndBeforeStart}
use Rattle.am_alerts.specs.declared.limits.TheConstants.{MAX_TIME}

-- an alert as contracts see it: its label set, its start and its end, if it has one
pub record AlertData : Type 0 where
  pub labels : List Label
  pub starts : ℕ
  pub ends : Option ℕ

-- whether there is an end, and it has come at t
abbrev pub has_come : Option ℕ → ℕ → Bool
has_come None t = false
has_come (Some end) t = nat_le end t

-- resolved: the alert has an end, and that end has come at t
abbrev pub is_resolved : AlertData → ℕ → Bool
is_resolved a t = has_come a.ends t

-- whether there is an end, and it is above the greatest time
abbrev pub is_late : Option ℕ → Bool
is_late None = false
is_late (Some end) = nat_lt MAX_TIME end

-- whether there is an end, and it comes before the start
abbrev pub is_before : Option ℕ → ℕ → Bool
is_before None start = false
is_before (Some end) start = nat_lt end start

-- why labels and times make no alert
abbrev pub alert_fault : AlertData → Option AlertFault
alert_fault a =
    if length a.labels == 0 then Some NoLabels
    else (if nat_lt MAX_TIME a.starts || is_late a.ends then Some BadTime
    else (if is_before a.ends a.starts then Some EndBeforeStart else None))

-- the alert of labels and times
abbrev pub alert_of : List Label → ℕ → Option ℕ → AlertData
alert_of labels starts ends = record { labels = labels; starts = starts; ends = ends }
