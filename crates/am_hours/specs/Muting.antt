-- When a route is muted (notify.TimeMuteStage, notify.TimeActiveStage), and why there are no spans for it.
use Rattle.std.specs.Prelude.{◌≡◌, ◌≤◌, ◌⊎◌, ℕ, Bool, true, false, not, ◌&&◌, ◌||◌, nat_lt, List, [], ◌∷◌}
use Rattle.std.specs.List.{list_any}
use Rattle.am_alerts.specs.declared.spans.Span.{Span}
use Rattle.am_alerts.specs.declared.limits.TheConstants.{MAX_TIME}
use Rattle.am_alerts.specs.declared.spans.SpansFault.{SpansFault}
use Rattle.am_alerts.specs.declared.spans.SpansFault.TheVariants as Given
use Rattle.am_alerts.specs.Spans.{is_muted}
use Rattle.am_hours.specs.declared.fault.HoursFault.{HoursFault}
use Rattle.am_hours.specs.declared.fault.HoursFault.TheVariants.{TooMany, TooLong, NoMemory}
use Rattle.am_hours.specs.Merging.{IsRefusal}

-- one of these lists of spans holds a time
abbrev pub any_muted : List (List Span) → ℕ → Bool
any_muted lists t = list_any (λ spans. is_muted spans t) lists

-- there are lists, and none of them holds a time
abbrev pub is_idle : List (List Span) → ℕ → Bool
is_idle [] t = false
is_idle (spans ∷ lists) t = not (any_muted (spans ∷ lists) t)

-- a route is muted at a time by what mutes it, or since nothing of what makes it active holds a time before a horizon
abbrev pub is_muted_by_time : ℕ → List (List Span) → List (List Span) → ℕ → Bool
is_muted_by_time horizon mute active t = any_muted mute t || (nat_lt t horizon && is_idle active t)

-- the fault of spans, in the words of this crate
abbrev pub hours_fault : SpansFault → HoursFault
hours_fault Given.BadOrder = TooMany
hours_fault Given.TooMany = TooMany
hours_fault Given.BadTime = TooLong
hours_fault Given.NoMemory = NoMemory

-- why times make no list of so many spans at most: as a list of spans is refused, or since one of them is a time of 10^15 or later
abbrev pub IsNoSpans : ℕ → (ℕ → Bool) → HoursFault → Type 0
IsNoSpans most held fault = IsRefusal most fault ⊎ ((fault ≡ TooLong) × (t : ℕ) × (MAX_TIME ≤ t) × (held t ≡ true))
