-- The inhibition rules of an `alertmanager.yml`.
use Rattle.std.specs.Prelude.{◌≡◌, List, [], ◌∷◌, ℕ, IsTrue, codes}
use Rattle.serde_json.specs.Data.{Data, Members}
use Rattle.am_alerts.specs.Labels.{is_label_name}
use Rattle.am_json.specs.Decoding.{IsList, IsObject, IsText}
use Rattle.am_json.specs.Read.{are_named}
use Rattle.am_mute.specs.Inhibit.{RuleData}
use Rattle.am_config.specs.Matchers.{AreMatchers, MatcherFields}
use Rattle.am_config.specs.Said.{SaysOr}

-- the fields of a rule
abbrev pub rule_fields : List (List ℕ)
rule_fields =
    codes "name" ∷ codes "source_match" ∷ codes "source_match_re" ∷ codes "source_matchers" ∷ codes "target_match" ∷ codes "target_match_re"
    ∷ codes "target_matchers" ∷ codes "equal" ∷ []

-- the fields with the matchers of the alerts that inhibit
abbrev pub source_fields : MatcherFields
source_fields = record { equal = codes "source_match"; like = codes "source_match_re"; texts = codes "source_matchers" }

-- the fields with the matchers of the alerts that are inhibited
abbrev pub target_fields : MatcherFields
target_fields = record { equal = codes "target_match"; like = codes "target_match_re"; texts = codes "target_matchers" }

-- a value is the name of a label
abbrev pub IsLabelName : Data → List ℕ → Type 0
IsLabelName value name = IsText value name × IsTrue (is_label_name name)

-- the fields decode to a rule
pub record HasRule (members : Members) (r : RuleData) : Type 0 where
  pub known : IsTrue (are_named rule_fields members)
  pub source : AreMatchers source_fields members r.source
  pub target : AreMatchers target_fields members r.target
  pub equal : SaysOr (IsList IsLabelName) [] (codes "equal") members r.equal

-- the fields of an `alertmanager.yml` decode to these rules, in its order
abbrev pub HasRules : Members → List RuleData → Type 0
HasRules members rules = SaysOr (IsList (IsObject HasRule)) [] (codes "inhibit_rules") members rules

-- the inhibition rules of an `alertmanager.yml`'s value
abbrev pub RulesAre : Data → List RuleData → Type 0
RulesAre value rules = IsObject HasRules value rules
