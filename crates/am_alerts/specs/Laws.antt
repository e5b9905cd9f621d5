-- The limits and the faults' numbers, by their values.
use Rattle.std.specs.Prelude.{◌≡◌, [], ◌∷◌}
use Rattle.am_alerts.specs.declared.limits.TheConstants.{MAX_TIME, MAX_DURATION, MAX_LABELS, MAX_NAME_BYTES, MAX_VALUE_BYTES, MAX_MATCHERS}
use Rattle.am_alerts.specs.declared.limits.TheConstants.{MAX_LABEL_NAMES, MAX_CHILDREN, MAX_ROUTES, MAX_DEPTH, MAX_SPANS}
use Rattle.am_alerts.specs.declared.law.TheConstants.{LABEL_FAULTS, ALERT_FAULTS, MATCHER_FAULTS}
use Rattle.am_alerts.specs.declared.law.TheConstants.{ROUTE_FAULTS, SPANS_FAULTS, DURATION_FAULTS}
use Rattle.am_alerts.specs.declared.labels.LabelFault.TheVariants as label
use Rattle.am_alerts.specs.declared.alert.AlertFault.TheVariants as alert
use Rattle.am_alerts.specs.declared.matcher.MatcherFault.TheVariants as matcher
use Rattle.am_alerts.specs.declared.route.RouteFault.TheVariants as route
use Rattle.am_alerts.specs.declared.duration.DurationFault.TheVariants as duration
use Rattle.am_alerts.specs.declared.spans.SpansFault.TheVariants as spans

-- law: a time is at most 10^15 ms and a duration at most 10^12; 64 labels, names of 1,024 bytes and values of 16,384, 128 matchers in a
-- list, 64 names in a list, 63 children of a root of one level, 16,383 routes below a root, at 64 levels, and 8,192 spans of a route
abbrev pub LimitsAre : Type 0
LimitsAre =
    (MAX_TIME ≡ 1_000_000_000_000_000)
    × (MAX_DURATION ≡ 1_000_000_000_000)
    × (MAX_LABELS ≡ 64)
    × (MAX_NAME_BYTES ≡ 1_024)
    × (MAX_VALUE_BYTES ≡ 16_384)
    × (MAX_MATCHERS ≡ 128)
    × (MAX_LABEL_NAMES ≡ 64)
    × (MAX_CHILDREN ≡ 63)
    × (MAX_ROUTES ≡ 16_383)
    × (MAX_DEPTH ≡ 64)
    × (MAX_SPANS ≡ 8_192)

-- law: the numbers of the faults of label sets
abbrev pub LabelFaultsAre : Type 0
LabelFaultsAre =
    LABEL_FAULTS
    ≡ (label.Empty, 1) ∷ (label.BadName, 2) ∷ (label.Twice, 3) ∷ (label.TooMany, 4) ∷ (label.TooLong, 5) ∷ (label.NoMemory, 6) ∷ []

-- law: the numbers of the faults of alerts
abbrev pub AlertFaultsAre : Type 0
AlertFaultsAre = ALERT_FAULTS ≡ (alert.NoLabels, 1) ∷ (alert.BadTime, 2) ∷ (alert.EndBeforeStart, 3) ∷ []

-- law: the numbers of the faults of matchers
abbrev pub MatcherFaultsAre : Type 0
MatcherFaultsAre =
    MATCHER_FAULTS ≡ (matcher.BadName, 1) ∷ (matcher.TooLong, 2) ∷ (matcher.BadPattern, 3) ∷ (matcher.NoMemory, 4) ∷ []

-- law: the numbers of the faults of routing trees
abbrev pub RouteFaultsAre : Type 0
RouteFaultsAre =
    ROUTE_FAULTS ≡ (route.BadName, 1) ∷ (route.Twice, 2) ∷ (route.TooMany, 3) ∷ (route.BadInterval, 4) ∷ []

-- law: the numbers of the faults of durations
abbrev pub DurationFaultsAre : Type 0
DurationFaultsAre = DURATION_FAULTS ≡ (duration.BadDuration, 1) ∷ (duration.TooLong, 2) ∷ []

-- law: the numbers of the faults of spans
abbrev pub SpansFaultsAre : Type 0
SpansFaultsAre = SPANS_FAULTS ≡ (spans.BadOrder, 1) ∷ (spans.TooMany, 2) ∷ (spans.BadTime, 3) ∷ (spans.NoMemory, 4) ∷ []
