-- Inhibition rules.
use Rattle.std.specs.Prelude.{ℕ, Bool, not, ◌&&◌, ◌||◌, List, length, find, Option, Some, None, nat_lt, if◌then◌else◌}
use Rattle.std.specs.List.{list_all, list_any}
use Rattle.std.specs.Option.{option_eq}
use Rattle.std.specs.Str.{bytes_eq}
use Rattle.am_alerts.specs.AlertData.{AlertData, is_resolved}
use Rattle.am_alerts.specs.Labels.{value_in}
use Rattle.am_alerts.specs.Matcher.{match_all}
use Rattle.am_alerts.specs.declared.labels.Label.{Label}
use Rattle.am_alerts.specs.declared.matcher.MatcherParts.{MatcherParts}
use Rattle.am_alerts.specs.declared.limits.TheConstants.{MAX_MATCHERS, MAX_LABEL_NAMES}
use Rattle.am_mute.specs.declared.inhibit.RuleFault.{RuleFault}
use Rattle.am_mute.specs.declared.inhibit.RuleFault.TheVariants.{TooManyMatchers, TooManyNames}

-- an inhibition rule as contracts see it: its source and target matchers, and the names in which the two have to agree
pub record RuleData : Type 0 where
  pub source : List MatcherParts
  pub target : List MatcherParts
  pub equal : List (List ℕ)

-- matchers and names as an inhibition rule
abbrev pub rule_of : List MatcherParts → List MatcherParts → List (List ℕ) → RuleData
rule_of source target equal = record { source = source; target = target; equal = equal }

-- why matchers and names are no inhibition rule
abbrev pub rule_fault : RuleData → Option RuleFault
rule_fault r =
    if nat_lt MAX_MATCHERS (length r.source) || nat_lt MAX_MATCHERS (length r.target) then Some TooManyMatchers
    else (if nat_lt MAX_LABEL_NAMES (length r.equal) then Some TooManyNames else None)

-- whether two label sets agree on a name: both have one value under it, or neither has the label
abbrev pub agrees_on_name : List ℕ → List Label → List Label → Bool
agrees_on_name name a b = option_eq bytes_eq (value_in name a) (value_in name b)

-- whether two label sets agree on each of these names (the equal labels of Alertmanager's package inhibit)
abbrev pub agrees_on : List (List ℕ) → List Label → List Label → Bool
agrees_on equal a b = list_all (λ name. agrees_on_name name a b) equal

-- whether both sides of a rule match a label set
abbrev pub matches_both : RuleData → List Label → Bool
matches_both r labels = match_all r.source labels && match_all r.target labels

-- whether a known alert is a source for a label set at t: it isn't resolved, the source matchers match it, the two agree on the names
-- of `equal`, and not both match both sides (Alertmanager's exclusion of two-sided matches)
abbrev pub is_inhibited_by : RuleData → ℕ → List Label → AlertData → Bool
is_inhibited_by r t labels a =
    not (is_resolved a t) && match_all r.source a.labels && agrees_on r.equal labels a.labels
    && not (matches_both r labels && matches_both r a.labels)

-- whether a rule mutes a label set at t: its target matchers match, and one of the known alerts is a source (Alertmanager's
-- Inhibitor.Mutes)
abbrev pub inhibits : RuleData → ℕ → List AlertData → List Label → Bool
inhibits r t known labels = match_all r.target labels && list_any (λ a. is_inhibited_by r t labels a) known

-- the first known alert because of which a rule mutes a label set at t
abbrev pub source_for : RuleData → ℕ → List AlertData → List Label → Option AlertData
source_for r t known labels = if match_all r.target labels then find (is_inhibited_by r t labels) known else None

-- inhibited: one of these rules mutes the label set at t
abbrev pub is_inhibited : List Label → ℕ → List RuleData → List AlertData → Bool
is_inhibited labels t rules known = list_any (λ r. inhibits r t known labels) rules
