-- One step of a merge of two lists of spans, and why a list is refused.
use Rattle.std.specs.Prelude.{◌≡◌, ◌<◌, ℕ, Bool, true, List, [], ◌∷◌, nat_le, ◌⊎◌}
use Rattle.am_alerts.specs.declared.limits.TheConstants.{MAX_SPANS}
use Rattle.am_hours.specs.declared.fault.HoursFault.{HoursFault}
use Rattle.am_hours.specs.declared.fault.HoursFault.TheVariants.{NoMemory, TooMany}
use Rattle.am_alerts.specs.declared.spans.Span.{Span}
use Rattle.std.specs.List.{list_all}

-- each span begins at a time at the latest
abbrev pub begin_by : ℕ → List Span → Bool
begin_by t spans = list_all (λ s. nat_le s.from t) spans

-- the first span of a list, if there is one, begins no earlier than a span
abbrev pub begins_after : Span → List Span → Bool
begins_after s [] = true
begins_after s (x ∷ xs) = nat_le s.from x.from

-- a span is the first of one of two lists, and begins no later than the first of the other; what is left of the two
abbrev pub IsNext : List Span → List Span → Span → List Span → List Span → Type 0
IsNext first second s first' second' =
    ((first ≡ s ∷ first') × (second' ≡ second) × (begins_after s second ≡ true))
    ⊎ ((second ≡ s ∷ second') × (first' ≡ first) × (begins_after s first ≡ true))

-- why a list is refused that has so many spans at most: out of memory, or since a list has fewer
abbrev pub IsRefusal : ℕ → HoursFault → Type 0
IsRefusal most fault = (fault ≡ NoMemory) ⊎ ((fault ≡ TooMany) × (MAX_SPANS < most))
