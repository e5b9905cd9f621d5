-- Label sets that a rule may mute: a source mutes those that have its values in the labels of `equal`.
use Rattle.std.specs.Prelude.{◌≡◌, ℕ, true, false, List, Option, Some, None, fold}
use Rattle.std.specs.Hash.{str}
use Rattle.am_alerts.specs.Labels.{value_of}
use Rattle.am_alerts.specs.Matcher.{match_all}
use Rattle.am_alerts.specs.declared.labels.Label.{Label}
use Rattle.am_mute.specs.Inhibit.{RuleData}
use Rattle.am_seed.specs.Hashing.{opening, write, finish}
use Rattle.am_seed.specs.declared.seed.Seed.{Seed}

-- a label set, a rule whose target matchers match it, and a time
pub record TargetData : Type 0 where
  pub rule : RuleData
  pub labels : List Label
  pub t : ℕ

-- the target that a label set is for a rule at t, or none where the target matchers don't match it
abbrev pub IsTargetOf : RuleData → List Label → ℕ → Option TargetData → Type 0
IsTargetOf rule labels t None = match_all rule.target labels ≡ false
IsTargetOf rule labels t (Some x) = (match_all rule.target labels ≡ true) × (x ≡ record { rule = rule; labels = labels; t = t })

-- the hash, from a seed, of the values that a label set has under these names
abbrev pub values_hash : Seed → List (List ℕ) → List Label → ℕ
values_hash seed names labels = finish (fold (λ hasher name. fold write hasher (str (value_of name labels))) (opening seed) names)
