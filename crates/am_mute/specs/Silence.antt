-- Silences.
use Rattle.std.specs.Prelude.{ℕ, Bool, ◌&&◌, ◌||◌, List, length, Option, Some, None, ◌==◌, nat_lt, nat_le, if◌then◌else◌}
use Rattle.std.specs.List.{list_any}
use Rattle.am_alerts.specs.Matcher.{match_all}
use Rattle.am_alerts.specs.declared.labels.Label.{Label}
use Rattle.am_alerts.specs.declared.matcher.MatcherParts.{MatcherParts}
use Rattle.am_alerts.specs.declared.limits.TheConstants.{MAX_MATCHERS, MAX_TIME}
use Rattle.am_mute.specs.declared.silence.SilenceFault.{SilenceFault}
use Rattle.am_mute.specs.declared.silence.SilenceFault.TheVariants.{NoMatchers, TooManyMatchers, BadTimes}

-- a silence as contracts see it: its id, its matchers, its start and its end
pub record SilenceData : Type 0 where
  pub id : ℕ
  pub matchers : List MatcherParts
  pub start : ℕ
  pub end : ℕ

-- the silence of an id, matchers and times
abbrev pub silence_of : ℕ → List MatcherParts → ℕ → ℕ → SilenceData
silence_of id matchers start end = record { id = id; matchers = matchers; start = start; end = end }

-- why matchers and times make no silence
abbrev pub silence_fault : SilenceData → Option SilenceFault
silence_fault s =
    if length s.matchers == 0 then Some NoMatchers
    else (if nat_lt MAX_MATCHERS (length s.matchers) then Some TooManyMatchers
    else (if nat_lt s.end s.start || nat_lt MAX_TIME s.start || nat_lt MAX_TIME s.end then Some BadTimes else None))

-- whether a silence is active at t: it has started, and its end hasn't come (Alertmanager's package silence, save that there the end
-- itself counts)
abbrev pub is_active : SilenceData → ℕ → Bool
is_active s t = nat_le s.start t && nat_lt t s.end

-- whether a silence is over at t: its end has come, so it mutes nothing any more
abbrev pub is_over : ℕ → SilenceData → Bool
is_over t s = nat_le s.end t

-- whether a silence mutes a label set at t: it is active, and all its matchers match
abbrev pub silence_mutes : SilenceData → ℕ → List Label → Bool
silence_mutes s t labels = is_active s t && match_all s.matchers labels

-- silenced: one of these silences mutes the label set at t
abbrev pub is_silenced : List Label → ℕ → List SilenceData → Bool
is_silenced labels t silences = list_any (λ s. silence_mutes s t labels) silences
