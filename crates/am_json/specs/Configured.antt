-- What the JSON value of a configuration decodes to, a line for each field.
use Rattle.std.specs.Prelude.{◌≡◌, ◌≤◌, ◌++◌, ◌&&◌, ℕ, Bool, List, [], ◌∷◌, Some, None, true, false, codes, length, nat_le, IsTrue}
use Rattle.std.specs.Prelude.{MatchOption}
use Rattle.std.specs.Borrow.{Bor}
use Rattle.std.specs.List.{list_all, list_any}
use Rattle.std.specs.Str.{bytes_eq}
use Rattle.serde_json.specs.Data.{Data, no_items, item, string, Members, no_members, member}
use Rattle.serde_json.specs.Find.{as_array, as_object, as_str}
use Rattle.am_alerts.specs.Labels.{IsReadOf, labels_in, read_fault}
use Rattle.am_alerts.specs.Matcher.{compare_texts, has_pattern, matcher_fault, operator_text}
use Rattle.am_alerts.specs.RoutingTree.{children_of, level_fault, tree_of}
use Rattle.am_alerts.specs.declared.labels.Label.{Label}
use Rattle.am_alerts.specs.declared.limits.TheConstants.{MAX_MATCHERS, MAX_LABEL_NAMES}
use Rattle.am_alerts.specs.declared.matcher.MatcherParts.{MatcherParts}
use Rattle.am_alerts.specs.declared.route.Child.{Child}
use Rattle.am_alerts.specs.declared.route.GroupBy.{GroupBy}
use Rattle.am_alerts.specs.declared.route.GroupBy.TheVariants.{All, Names}
use Rattle.am_alerts.specs.declared.route.Route.{Route}
use Rattle.am_model.specs.Config.{config_fault, default_limits, greatest_limits}
use Rattle.am_model.specs.declared.config.Config.{Config}
use Rattle.am_model.specs.declared.config.Integration.{Integration}
use Rattle.am_model.specs.declared.config.Limits.{Limits}
use Rattle.am_model.specs.declared.config.Receiver.{Receiver}
use Rattle.am_mute.specs.Inhibit.{RuleData, rule_fault}
use Rattle.am_json.specs.Decoding.{IsText, IsFlag, IsNumber, IsDuration, IsInterval, IsList, IsObject, Has, HasOr}
use Rattle.am_json.specs.MatcherText.{IsMatcherText}
use Rattle.am_json.specs.Read.{has_only}
use Rattle.am_json.specs.declared.config.TheConstants.{FEW_BYTES, FEW_INTEGRATIONS, FEW_MATCHERS, FEW_RECEIVERS, FEW_RULES}
use Rattle.am_json.specs.Translated.{IsTranslatedFrom}
use Rattle.am_json.specs.declared.reader.Mode.{Mode}
use Rattle.am_json.specs.declared.reader.Mode.TheVariants.{Lenient, Strict}

-- a name and a value: an array of two texts
abbrev pub IsPair : Data → Bor (List ℕ) × Bor (List ℕ) → Type 0
IsPair value pair = as_array value ≡ Some (item (string pair.0.now) (item (string pair.1.now) no_items))

-- the members of an object that has these names with these texts
abbrev pub text_members : List (Bor (List ℕ) × Bor (List ℕ)) → Members
text_members [] = no_members
text_members (p ∷ ps) = member p.0.now (string p.1.now) (text_members ps)

-- whether the value of a pair is no longer than one of a scenario
abbrev pub has_short_value : Bor (List ℕ) × Bor (List ℕ) → Bool
has_short_value pair = nat_le (length pair.1.now) FEW_BYTES

-- an array of pairs decodes to them, in lenient mode if no value is longer than one of a scenario; in strict mode so does an object, whose
-- fields are the pairs
abbrev pub DecodesToPairs : Mode → Data → List (Bor (List ℕ) × Bor (List ℕ)) → Type 0
DecodesToPairs Lenient value pairs = IsList IsPair value pairs × IsTrue (list_all has_short_value pairs)
DecodesToPairs Strict value pairs = MatchOption (as_object value) (IsList IsPair value pairs) (λ members. members ≡ text_members pairs)

-- the labels of these pairs, which have no fault; those without a value are dropped
pub record DecodesToLabels (mode : Mode) (value : Data) (labels : List Label) : Type 0 where
  pub pairs : List (Bor (List ℕ) × Bor (List ℕ))
  pub written : DecodesToPairs mode value pairs
  pub sound : read_fault (labels_in pairs) ≡ None
  pub read : IsReadOf (labels_in pairs) labels

-- a name, an operator and a value: an array of three texts
abbrev pub IsMatcher : Data → MatcherParts → Type 0
IsMatcher value m = as_array value ≡ Some (item (string m.name) (item (string (operator_text m.op)) (item (string m.value) no_items)))

-- the parts of a matcher as they are written: one text, or else three
abbrev pub IsWritten : Data → MatcherParts → Type 0
IsWritten value m = MatchOption (as_str value) (IsMatcher value m) (λ text. IsMatcherText text m)

-- in lenient mode the value is no longer than one of a scenario; in strict mode a text decodes to a matcher too, and patterns are Go's
abbrev pub IsMatcherIn : Mode → Data → MatcherParts → Type 0
IsMatcherIn Lenient value m = IsMatcher value m × (length m.value ≤ FEW_BYTES)
IsMatcherIn Strict value m = IsTranslatedFrom (IsWritten value) m

-- parts of which a matcher can be made
pub record IsSound (m : MatcherParts) : Type 0 where
  pub faultless : matcher_fault m ≡ None
  pub pattern : IsTrue (has_pattern m)

pub record DecodesToMatcher (mode : Mode) (value : Data) (m : MatcherParts) : Type 0 where
  pub written : IsMatcherIn mode value m
  pub sound : IsSound m

-- how many matchers a list may have
abbrev pub most_matchers : Mode → ℕ
most_matchers Lenient = FEW_MATCHERS
most_matchers Strict = MAX_MATCHERS

-- the fields of an object decode to an inhibition rule
pub record HasRule (mode : Mode) (members : Members) (rule : RuleData) : Type 0 where
  pub only : IsTrue (has_only mode (codes "source" ∷ codes "target" ∷ codes "equal" ∷ []) members)
  pub source : HasOr (IsList (DecodesToMatcher mode)) [] (codes "source") members rule.source
  pub target : HasOr (IsList (DecodesToMatcher mode)) [] (codes "target") members rule.target
  pub equal : HasOr (IsList IsText) [] (codes "equal") members rule.equal
  pub few : (length rule.source ≤ most_matchers mode) × (length rule.target ≤ most_matchers mode)
  pub sound : rule_fault rule ≡ None

abbrev pub DecodesToRule : Mode → Data → RuleData → Type 0
DecodesToRule mode value rule = IsObject (HasRule mode) value rule

-- whether no matcher of a rule needs a regex
abbrev pub rule_compares_texts : RuleData → Bool
rule_compares_texts rule = compare_texts rule.source && compare_texts rule.target

-- `group_by` has this text alone for all labels
abbrev pub all_labels : List ℕ
all_labels = codes "..."

-- the labels by which a route groups: all, or those of some names
abbrev pub IsGroupBy : Data → GroupBy → Type 0
IsGroupBy value All = as_array value ≡ Some (item (string all_labels) no_items)
IsGroupBy value (Names names) =
    IsList IsText value names × (list_any (λ name. bytes_eq name all_labels) names ≡ false) × (length names ≤ MAX_LABEL_NAMES)

-- what the root and its children have alike: all of a route but its name
pub record DecodesToOptions (members : Members) (route : Route) : Type 0 where
  pub receiver : Has IsText (codes "receiver") members route.receiver
  pub group_by : HasOr IsGroupBy (Names []) (codes "group_by") members route.group_by
  pub group_wait : HasOr IsDuration 30000 (codes "group_wait") members route.group_wait
  pub group_interval : HasOr IsInterval 300000 (codes "group_interval") members route.group_interval
  pub repeat_interval : HasOr IsInterval 14400000 (codes "repeat_interval") members route.repeat_interval

-- the names of these members
abbrev pub option_names : List (List ℕ)
option_names =
    codes "receiver" ∷ codes "group_by" ∷ codes "group_wait" ∷ codes "group_interval" ∷ codes "repeat_interval" ∷ []

-- the fields of an object decode to the root route
pub record HasRoot (mode : Mode) (members : Members) (route : Route) : Type 0 where
  pub only : IsTrue (has_only mode option_names members)
  pub options : DecodesToOptions members route
  pub name : route.name ≡ codes "root"

abbrev pub DecodesToRoot : Mode → Data → Route → Type 0
DecodesToRoot mode value route = IsObject (HasRoot mode) value route

-- the fields of an object decode to a child route
pub record HasChild (mode : Mode) (members : Members) (child : Child) : Type 0 where
  pub only : IsTrue (has_only mode (option_names ++ codes "name" ∷ codes "matchers" ∷ codes "continue" ∷ []) members)
  pub options : DecodesToOptions members child.route
  pub name : Has IsText (codes "name") members child.route.name
  pub matchers : HasOr (IsList (DecodesToMatcher mode)) [] (codes "matchers") members child.matchers
  pub few : length child.matchers ≤ most_matchers mode
  pub continues : HasOr IsFlag false (codes "continue") members child.continues

abbrev pub DecodesToChild : Mode → Data → Child → Type 0
DecodesToChild mode value child = IsObject (HasChild mode) value child

-- the fields of an object decode to an integration
pub record HasIntegration (mode : Mode) (members : Members) (integration : Integration) : Type 0 where
  pub only : IsTrue (has_only mode (codes "kind" ∷ codes "send_resolved" ∷ []) members)
  pub kind : Has IsText (codes "kind") members integration.kind
  pub send_resolved : HasOr IsFlag true (codes "send_resolved") members integration.send_resolved

abbrev pub DecodesToIntegration : Mode → Data → Integration → Type 0
DecodesToIntegration mode value integration = IsObject (HasIntegration mode) value integration

-- the fields of an object decode to a receiver
pub record HasReceiver (mode : Mode) (members : Members) (receiver : Receiver) : Type 0 where
  pub only : IsTrue (has_only mode (codes "name" ∷ codes "integrations" ∷ []) members)
  pub name : Has IsText (codes "name") members receiver.name
  pub integrations : Has (IsList (DecodesToIntegration mode)) (codes "integrations") members receiver.integrations

abbrev pub DecodesToReceiver : Mode → Data → Receiver → Type 0
DecodesToReceiver mode value receiver = IsObject (HasReceiver mode) value receiver

-- the limits where a configuration says none, none of which it may pass
abbrev pub limits_in : Mode → Limits
limits_in Lenient = default_limits
limits_in Strict = greatest_limits

-- whether none of these limits is above the greatest
abbrev pub are_at_most : Limits → Limits → Bool
are_at_most greatest limits =
    nat_le limits.alerts greatest.alerts && nat_le limits.groups greatest.groups && nat_le limits.silences greatest.silences
    && nat_le limits.flushes greatest.flushes && nat_le limits.history greatest.history

-- whether a receiver has no more integrations than one of a scenario
abbrev pub has_few_integrations : Receiver → Bool
has_few_integrations r = nat_le (length r.integrations) FEW_INTEGRATIONS

-- whether a configuration has no more receivers, integrations and rules than its mode allows: a scenario keeps those of a small dispatcher
abbrev pub has_few_parts : Mode → Config → Bool
has_few_parts Strict config = true
has_few_parts Lenient config =
    nat_le (length config.receivers) FEW_RECEIVERS && list_all has_few_integrations config.receivers
    && nat_le (length config.rules) FEW_RULES

-- the names of limits
abbrev pub limit_names : List (List ℕ)
limit_names = codes "names" ∷ codes "groups" ∷ codes "silences" ∷ codes "flushes" ∷ codes "history" ∷ []

-- the fields of an object decode to limits
pub record HasLimits (mode : Mode) (members : Members) (limits : Limits) : Type 0 where
  pub only : IsTrue (has_only mode limit_names members)
  pub alerts : HasOr IsNumber (limits_in mode).alerts (codes "names") members limits.alerts
  pub groups : HasOr IsNumber (limits_in mode).groups (codes "groups") members limits.groups
  pub silences : HasOr IsNumber (limits_in mode).silences (codes "silences") members limits.silences
  pub flushes : HasOr IsNumber (limits_in mode).flushes (codes "flushes") members limits.flushes
  pub history : HasOr IsNumber (limits_in mode).history (codes "history") members limits.history

abbrev pub DecodesToLimits : Mode → Data → Limits → Type 0
DecodesToLimits mode value limits = IsObject (HasLimits mode) value limits

-- the names of the members of a configuration
abbrev pub config_names : List (List ℕ)
config_names =
    codes "retention" ∷ codes "limits" ∷ codes "receivers" ∷ codes "route" ∷ codes "children" ∷ codes "inhibit" ∷ []

-- the fields of an object decode to a configuration, with or without a fault
pub record HasParts (mode : Mode) (members : Members) (config : Config) : Type 0 where
  pub only : IsTrue (has_only mode config_names members)
  pub retention : HasOr IsDuration 432000000 (codes "retention") members config.retention
  pub limits : HasOr (DecodesToLimits mode) (limits_in mode) (codes "limits") members config.limits
  pub receivers : Has (IsList (DecodesToReceiver mode)) (codes "receivers") members config.receivers
  pub root : Has (DecodesToRoot mode) (codes "route") members config.routes.root
  pub children : List Child
  pub listed : HasOr (IsList (DecodesToChild mode)) [] (codes "children") members children
  pub tree : config.routes ≡ tree_of config.routes.root children
  pub sound : level_fault config.routes ≡ None
  pub rules : HasOr (IsList (DecodesToRule mode)) [] (codes "inhibit") members config.rules

pub record DecodesToConfig (mode : Mode) (value : Data) (config : Config) : Type 0 where
  pub parts : IsObject (HasParts mode) value config
  pub sound : config_fault config ≡ None
  pub within : IsTrue (are_at_most (limits_in mode) config.limits)
  pub few : IsTrue (has_few_parts mode config)

-- whether no matcher of a configuration needs a regex
abbrev pub config_compares_texts : Config → Bool
config_compares_texts config =
    list_all (λ c. compare_texts c.matchers) (children_of config.routes) && list_all rule_compares_texts config.rules
