-- Matchers, and the lists of them.
use Rattle.std.specs.Prelude.{◌≡◌, ℕ, Bool, true, false, not, ◌||◌, codes, List, length, Option, Some, None, nat_lt, if◌then◌else◌}
use Rattle.std.specs.List.{list_all}
use Rattle.std.specs.Str.{bytes_eq}
use Rattle.am_alerts.specs.Labels.{is_label_name, value_of}
use Rattle.am_alerts.specs.declared.labels.Label.{Label}
use Rattle.am_alerts.specs.declared.matcher.MatcherParts.{MatcherParts}
use Rattle.am_alerts.specs.declared.matcher.Operator.{Operator}
use Rattle.am_alerts.specs.declared.matcher.Operator.TheVariants.{Equal, NotEqual, Like, NotLike}
use Rattle.am_alerts.specs.declared.matcher.MatcherFault.{MatcherFault}
use Rattle.am_alerts.specs.declared.matcher.MatcherFault.TheVariants.{BadName, TooLong, BadPattern, NoMemory}
use Rattle.am_alerts.specs.Pattern.{anchored, is_pattern, has_match}
use Rattle.am_alerts.specs.Plain.{bar_texts, is_one_of, is_plain_pattern}
use Rattle.am_alerts.specs.declared.pattern.PatternFault.{PatternFault}
use Rattle.am_alerts.specs.declared.pattern.PatternFault.TheVariants as pattern
use Rattle.am_alerts.specs.declared.limits.TheConstants.{MAX_NAME_BYTES, MAX_VALUE_BYTES}

-- an operator as it is written
abbrev pub operator_text : Operator → List ℕ
operator_text Equal = codes "="
operator_text NotEqual = codes "!="
operator_text Like = codes "=~"
operator_text NotLike = codes "!~"

-- whether an operator takes a text, and not a pattern
abbrev pub takes_text : Operator → Bool
takes_text Equal = true
takes_text NotEqual = true
takes_text Like = false
takes_text NotLike = false

-- whether a matcher compares texts byte by byte, which takes no memory: its operator takes a text, or it looks for a pattern of plain texts
-- with bars between them
abbrev pub compares_texts : MatcherParts → Bool
compares_texts m = takes_text m.op || is_plain_pattern m.value

-- whether each of these matchers compares texts
abbrev pub compare_texts : List MatcherParts → Bool
compare_texts ms = list_all compares_texts ms

-- whether a label's value passes a matcher's test; a pattern p represents `^(?:p)$`
abbrev pub passes : Operator → List ℕ → List ℕ → Bool
passes Equal wanted value = bytes_eq value wanted
passes NotEqual wanted value = not (bytes_eq value wanted)
passes Like wanted value = has_match (anchored wanted) value
passes NotLike wanted value = not (has_match (anchored wanted) value)

-- whether a test is passed by a value, where that is, or matches, what is wanted, or else isn't or doesn't
abbrev pub is_passed : Operator → Bool → Bool
is_passed Equal same = same
is_passed NotEqual same = not same
is_passed Like same = same
is_passed NotLike same = not same

-- match: whether a label set's value of the matcher's name passes its test; a label that isn't there has the empty text
abbrev pub matches_parts : MatcherParts → List Label → Bool
matches_parts m labels = passes m.op m.value (value_of m.name labels)

-- whether a value is the text that a matcher compares it with, or one of its texts
abbrev pub is_text : Operator → List ℕ → List ℕ → Bool
is_text Equal wanted value = bytes_eq value wanted
is_text NotEqual wanted value = bytes_eq value wanted
is_text Like wanted value = is_one_of (bar_texts wanted) value
is_text NotLike wanted value = is_one_of (bar_texts wanted) value

-- the pattern that a matcher searches for, if it doesn't compare texts
abbrev pub pattern_of : MatcherParts → Option (List ℕ)
pattern_of m = if compares_texts m then None else Some (anchored m.value)

-- whether what a matcher looks for is a pattern, where its operator takes one
abbrev pub has_pattern : MatcherParts → Bool
has_pattern m = takes_text m.op || is_pattern (anchored m.value)

-- match of a list: all its matchers match, so an empty list matches every label set
abbrev pub match_all : List MatcherParts → List Label → Bool
match_all ms labels = list_all (λ m. matches_parts m labels) ms

-- why parts are no matcher
abbrev pub matcher_fault : MatcherParts → Option MatcherFault
matcher_fault m =
    if is_label_name m.name
    then (if nat_lt MAX_NAME_BYTES (length m.name) || nat_lt MAX_VALUE_BYTES (length m.value) then Some TooLong else None)
    else Some BadName

-- parts with the pattern that was built for them
abbrev pub IsMatcher : MatcherParts → Option (List ℕ) → Type 0
IsMatcher parts pattern =
    (matcher_fault parts ≡ None) × (has_pattern parts ≡ true) × (pattern ≡ pattern_of parts)

-- the fault of a matcher for one of its pattern
abbrev pub of_pattern_fault : PatternFault → MatcherFault
of_pattern_fault pattern.BadPattern = BadPattern
of_pattern_fault pattern.NoMemory = NoMemory
