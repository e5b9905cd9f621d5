-- The time intervals of an `alertmanager.yml` (timeinterval.TimeInterval), and when those that a route lists mute it
-- (notify.TimeMuteStage, notify.TimeActiveStage). Times are in milliseconds.
use Rattle.std.specs.Prelude.{◌≡◌, ◌≢◌, ◌++◌, ◌-◌, ◌&&◌, ℕ, ℤ, pos, Bool, true, false, IsTrue, MatchBool, List, [], ◌∷◌, length, map}
use Rattle.std.specs.Prelude.{take, drop, find, slice_get, Option, Some, None, IsSomeAnd, MatchOption, option_map, unwrap_or, Result, Ok}
use Rattle.std.specs.Prelude.{codes, nat_le}
use Rattle.std.specs.Int.{int_div_euclid}
use Rattle.std.specs.List.{All, list_any}
use Rattle.std.specs.Str.{bytes_eq}
use Rattle.serde_json.specs.Data.{Data, Members}
use Rattle.jiff.specs.Types.{TimeZone as JiffZone, UTC}
use Rattle.am_alerts.specs.Labels.{has_text_twice}
use Rattle.am_alerts.specs.Spans.{is_muted}
use Rattle.am_alerts.specs.declared.spans.Span.{Span}
use Rattle.am_json.specs.Decoding.{IsList, IsObject}
use Rattle.am_json.specs.Read.{are_named}
use Rattle.am_hours.specs.Clocks.{IsPieceOf}
use Rattle.am_hours.specs.Intervals.{IntervalData}
use Rattle.am_hours.specs.Muting.{is_muted_by_time}
use Rattle.am_hours.specs.Pieces.{ClockData, are_in_row, contains_at}
use Rattle.am_hours.specs.Reading.{days_of, months_of, times_of, weekdays_of, years_of}
use Rattle.am_hours.specs.Zones.{IsInJiff, OfJiff, ZoneData}
use Rattle.am_hours.specs.declared.interval.InclusiveRange.{InclusiveRange}
use Rattle.am_hours.specs.declared.interval.TimeRange.{TimeRange}
use Rattle.am_hours.specs.declared.piece.Piece.{Piece}
use Rattle.am_hours.specs.declared.reading.RangeFault.{RangeFault}
use Rattle.am_config.specs.Said.{IsScalar, IsTextUnlessEmpty, Says, SaysIf, SaysOr, text_in}
use Rattle.am_config.specs.declared.definitions.NamedSpans.{NamedSpans}
use Rattle.am_config.specs.declared.hours.Hours.{Hours}
use Rattle.am_config.specs.declared.clocks.Placed.{Placed}
use Rattle.am_config.specs.declared.intervals.Numbers.{Numbers}
use Rattle.am_config.specs.declared.intervals.Numbers.TheVariants.{Weekdays, Months, Years}

-- ---- an interval

-- a scalar is read as this range
abbrev pub IsRange : {X : Type 0} → (List ℕ → Result X RangeFault) → Data → X → Type 0
IsRange reads value range = IsSomeAnd (text_in value) (λ text. reads text ≡ Ok range)

-- how the numbers of a list are read
abbrev pub numbers_of : Numbers → List ℕ → Result InclusiveRange RangeFault
numbers_of Weekdays text = weekdays_of text
numbers_of Months text = months_of text
numbers_of Years text = years_of text

-- the fields of a range of times of day
abbrev pub day_times_fields : List (List ℕ)
day_times_fields = codes "start_time" ∷ codes "end_time" ∷ []

-- the fields decode to a range of times of day
pub record HasDayTimes (members : Members) (range : TimeRange) : Type 0 where
  pub known : IsTrue (are_named day_times_fields members)
  pub from : List ℕ
  pub to : List ℕ
  pub starts : Says IsScalar (codes "start_time") members from
  pub ends : Says IsScalar (codes "end_time") members to
  pub is : times_of from to ≡ Ok range

-- the fields of an interval
abbrev pub interval_fields : List (List ℕ)
interval_fields =
    codes "times" ∷ codes "weekdays" ∷ codes "days_of_month" ∷ codes "months" ∷ codes "years" ∷ codes "location" ∷ []

-- the fields decode to an interval: a list that is there holds where one of its ranges does
pub record HasInterval (members : Members) (i : IntervalData) : Type 0 where
  pub known : IsTrue (are_named interval_fields members)
  pub times : SaysIf (IsList (IsObject HasDayTimes)) (codes "times") members i.times
  pub weekdays : SaysIf (IsList (IsRange weekdays_of)) (codes "weekdays") members i.weekdays
  pub days_of_month : SaysIf (IsList (IsRange days_of)) (codes "days_of_month") members i.days_of_month
  pub months : SaysIf (IsList (IsRange months_of)) (codes "months") members i.months
  pub years : SaysIf (IsList (IsRange years_of)) (codes "years") members i.years

-- ---- its clock

-- a location that is UTC: the empty one, and that of its name
abbrev pub is_utc : List ℕ → Bool
is_utc [] = true
is_utc (b ∷ bs) = bytes_eq (b ∷ bs) (codes "UTC")

-- the zone of a location: UTC, or the first known one of its name
abbrev pub IsZoneAt : Hours → List ℕ → ZoneData → Type 0
IsZoneAt hours location zone = MatchBool (is_utc location) (zone ≡ OfJiff UTC)
    (IsSomeAnd (find (λ known. bytes_eq known.name location) hours.zones.items) (λ known. zone ≡ known.zone))

-- the pieces are a zone's clock from the start to the horizon
pub record IsClockOf (hours : Hours) (zone : ZoneData) (pieces : List Piece) : Type 0 where
  pub given : JiffZone
  pub is : IsInJiff zone given
  pub are : All (IsPieceOf given (int_div_euclid hours.start.nanosecond (pos 1000000)) hours.horizon) pieces
  pub row : IsTrue (are_in_row 0 pieces hours.horizon)

-- the pieces are the clock of a location
abbrev pub IsClockAt : Hours → List ℕ → List Piece → Type 0
IsClockAt hours location pieces = (zone : ZoneData) × IsZoneAt hours location zone × IsClockOf hours zone pieces

-- the same where there are clocks; else there are no pieces
abbrev pub IsOnClock : Option Hours → List ℕ → List Piece → Type 0
IsOnClock None location pieces = pieces ≡ []
IsOnClock (Some hours) location pieces = IsClockAt hours location pieces

-- the fields say a location, or none, and the pieces are its clock
abbrev pub HasClock : Option Hours → Members → List Piece → Type 0
HasClock hours members pieces =
    (location : Option (List ℕ)) × SaysOr IsTextUnlessEmpty None (codes "location") members location
    × IsOnClock hours (unwrap_or location []) pieces

-- an interval, and the pieces of the clock of its location
pub record TimedData : Type 0 where
  pub interval : IntervalData
  pub pieces : List Piece

-- the fields decode to an interval and its clock
pub record HasTimed (hours : Option Hours) (members : Members) (x : TimedData) : Type 0 where
  pub interval : HasInterval members x.interval
  pub clock : HasClock hours members x.pieces

-- an interval holds at a time, by its clock
abbrev pub holds_at : ℕ → TimedData → Bool
holds_at t x = contains_at x.interval x.pieces t

-- the pieces of a clock, if there is one
abbrev pub pieces_in : Option ClockData → List Piece
pieces_in None = []
pieces_in (Some clock) = clock.pieces

-- an interval and its clock as the code has them
abbrev pub timed_in : Placed → TimedData
timed_in placed = record { interval = placed.interval; pieces = pieces_in placed.clock }

-- ---- definitions

-- the fields of a definition
abbrev pub definition_fields : List (List ℕ)
definition_fields = codes "name" ∷ codes "time_intervals" ∷ []

-- the spans hold the times at which one of these intervals holds
abbrev pub AreHeld : List TimedData → List Span → Type 0
AreHeld intervals spans = (t : ℕ) → is_muted spans t ≡ list_any (holds_at t) intervals

-- the intervals of an array, one of which holds at the times of these spans
abbrev pub IsHeld : Option Hours → Data → List Span → Type 0
IsHeld hours value spans = (intervals : List TimedData) × IsList (IsObject (HasTimed hours)) value intervals × AreHeld intervals spans

-- the fields say intervals, one of which holds at the times of these spans; without intervals there are no spans
abbrev pub HasSpans : Option Hours → Members → List Span → Type 0
HasSpans hours members spans = SaysOr (IsHeld hours) [] (codes "time_intervals") members spans

-- the fields decode to a definition: a name, and the spans in which one of its intervals holds
pub record HasDefinition (hours : Option Hours) (members : Members) (d : NamedSpans) : Type 0 where
  pub known : IsTrue (are_named definition_fields members)
  pub name : Says IsScalar (codes "name") members d.name
  pub named : d.name ≢ []
  pub spans : HasSpans hours members d.spans

-- a list of definitions
abbrev pub HasDefinitions : Option Hours → List ℕ → Members → List NamedSpans → Type 0
HasDefinitions hours field top definitions = SaysOr (IsList (IsObject (HasDefinition hours))) [] field top definitions

-- the definition of a name, if there is one
abbrev pub named_among : List ℕ → List NamedSpans → Option NamedSpans
named_among name definitions = find (λ d. bytes_eq d.name name) definitions

-- the definitions of a file, and the clocks by which they hold
pub record TimesData : Type 0 where
  pub hours : Option Hours
  pub named : List NamedSpans

-- the fields of an `alertmanager.yml` decode to these definitions: those of `mute_time_intervals`, then those of `time_intervals`; each
-- name is once
pub record HasTimes (hours : Option Hours) (top : Members) (times : TimesData) : Type 0 where
  pub hours_are : times.hours ≡ hours
  pub older : List NamedSpans
  pub others : List NamedSpans
  pub older_are : HasDefinitions hours (codes "mute_time_intervals") top older
  pub others_are : HasDefinitions hours (codes "time_intervals") top others
  pub all : times.named ≡ older ++ others
  pub once : has_text_twice (map (λ d. d.name) times.named) ≡ false

-- ---- a route

-- an item of a route's list is the name of a definition with these spans
abbrev pub IsListed : List NamedSpans → Data → List Span → Type 0
IsListed named value spans =
    IsSomeAnd (text_in value) (λ name. IsSomeAnd (named_among name named) (λ d. spans ≡ d.spans))

-- the definitions that a route lists, by their spans
abbrev pub ListsSpans : List NamedSpans → List ℕ → Members → List (List Span) → Type 0
ListsSpans named field members lists = SaysOr (IsList (IsListed named)) [] field members lists

-- a route is muted in these spans: from the time on at which the clocks begin, by the definitions that mute it, and before the horizon
-- since none of those in which it is active holds; without clocks it never is
abbrev pub MutedWhen : Option Hours → List (List Span) → List (List Span) → List Span → Type 0
MutedWhen None mute active spans = spans ≡ []
MutedWhen (Some hours) mute active spans =
    (t : ℕ) → is_muted spans t ≡ (nat_le hours.from t && is_muted_by_time hours.horizon mute active (t - hours.from))

-- the fields of a route say when it is muted
pub record HasMuted (times : TimesData) (members : Members) (spans : List Span) : Type 0 where
  pub mute : List (List Span)
  pub active : List (List Span)
  pub mutes : ListsSpans times.named (codes "mute_time_intervals") members mute
  pub acts : ListsSpans times.named (codes "active_time_intervals") members active
  pub muted_when : MutedWhen times.hours mute active spans

-- ---- as the code has it: definitions by their indexes

-- the value decodes to an interval and its clock, as the code has them
abbrev pub IsPlaced : Option Hours → Data → Placed → Type 0
IsPlaced hours value placed = IsObject (HasTimed hours) value (timed_in placed)

-- one more definition, to which a value decodes
abbrev pub IsDefined : TimesData → TimesData → Data → Type 0
IsDefined before after value =
    (d : NamedSpans) × (after.named ≡ before.named ++ d ∷ []) × IsObject (HasDefinition before.hours) value d

-- the index of a definition, by its name
abbrev pub IsFoundAt : List NamedSpans → List ℕ → Option ℕ → Type 0
IsFoundAt named name None = named_among name named ≡ None
IsFoundAt named name (Some i) = (d : NamedSpans) × (slice_get named i ≡ Some d) × (named_among name named ≡ Some d)

-- an item of a route's list is the name of the definition at an index
abbrev pub IsIndexOf : List NamedSpans → Data → ℕ → Type 0
IsIndexOf named value i = IsSomeAnd (text_in value) (λ name. IsFoundAt named name (Some i))

-- the spans of a definition before others, if there is one
abbrev pub spans_before : Option NamedSpans → List (List Span) → List (List Span)
spans_before None lists = lists
spans_before (Some d) lists = d.spans ∷ lists

-- the spans of the definitions at these indexes
abbrev pub spans_at : List NamedSpans → List ℕ → List (List Span)
spans_at named [] = []
spans_at named (i ∷ is) = spans_before (slice_get named i) (spans_at named is)

-- the key of a route's two lists of indexes: the length of the first, it, and the other
abbrev pub lists_key : List ℕ → List ℕ → List ℕ
lists_key mute active = length mute ∷ (mute ++ active)

-- the first of the lists of a key
abbrev pub mute_in : List ℕ → List ℕ
mute_in [] = []
mute_in (n ∷ rest) = take n rest

-- the other of them
abbrev pub active_in : List ℕ → List ℕ
active_in [] = []
active_in (n ∷ rest) = drop n rest

-- a route with these lists of indexes is muted in these spans
abbrev pub MutedAt : TimesData → List ℕ → List ℕ → List Span → Type 0
MutedAt times mute active spans = MutedWhen times.hours (spans_at times.named mute) (spans_at times.named active) spans
