-- Configured: under which configuration a story runs.
use Rattle.std.specs.Prelude.{◌≡◌, ◌||◌, ℕ, Bool, List, [], ◌∷◌, Option, Some, None, codes, is_some}
use Rattle.std.specs.Prelude.{option_map, if◌then◌else◌, IsSome, IsSomeAnd, IsTrue, MatchOption}
use Rattle.std.specs.List.{list_any}
use Rattle.serde_json.specs.Data.{Data, Members}
use Rattle.serde_json.specs.Find.{as_object, get, get_member, pointer}
use Rattle.serde_json.specs.View.{view}
use Rattle.am_json.specs.Configured.{DecodesToConfig, config_compares_texts}
use Rattle.am_json.specs.Decoding.{Has, HasNone}
use Rattle.am_json.specs.declared.reader.Mode.{Mode}
use Rattle.am_json.specs.declared.reader.Mode.TheVariants.{Strict}
use Rattle.am_config.specs.Receivers.{ReceiversAre}
use Rattle.am_config.specs.Retention.{log_retention}
use Rattle.am_config.specs.Routes.{TimedRoutesAre}
use Rattle.am_config.specs.Rules.{RulesAre}
use Rattle.am_config.specs.declared.hours.Hours.{Hours}
use Rattle.am_input.specs.declared.form.Form.{Form}
use Rattle.am_input.specs.declared.form.Form.TheVariants.{Story, Own, Alertmanager}
use Rattle.am_input.specs.declared.input.Changes.{Changes}
use Rattle.am_model.specs.Config.{config_fault, greatest_limits}
use Rattle.am_model.specs.declared.config.Config.{Config}

-- the names of the members of a story: no configuration has one of them
abbrev pub member_names : List (List ℕ)
member_names =
    codes "config" ∷ codes "alertmanager" ∷ codes "reload" ∷ codes "restart" ∷ codes "start" ∷ codes "zones" ∷ codes "until"
    ∷ codes "alerts" ∷ codes "silences" ∷ codes "maintain" ∷ codes "remove_empty_groups" ∷ codes "outages" ∷ codes "expect"
    ∷ codes "output" ∷ []

-- the fields that only a configuration of our own has
abbrev pub own_names : List (List ℕ)
own_names = codes "children" ∷ codes "inhibit" ∷ codes "limits" ∷ codes "retention" ∷ []

-- whether a value has a field of one of these names
abbrev pub has_one_of : List (List ℕ) → Data → Bool
has_one_of names value = list_any (λ name. is_some (get name value)) names

-- what a file is, by the fields that it has
abbrev pub form_in : Data → Form
form_in value =
    if has_one_of member_names value then Story
    else (if is_some (pointer (codes "/receivers/0/integrations") value) || has_one_of own_names value then Own else Alertmanager)

-- a configuration that was read from Alertmanager's has no fault, and its routes, which such clocks mute, receivers and rules; its log
-- keeps an entry for 120 hours, and its limits are the greatest. Not stated: the names of routes
pub record IsReadOfTheirs (Clocks : Option Hours → Type 0) (value : Data) (config : Config) : Type 0 where
  pub sound : config_fault config ≡ None
  pub hours : Option Hours
  pub clocks : Clocks hours
  pub routes : TimedRoutesAre hours value config.routes
  pub receivers : ReceiversAre value config.receivers
  pub rules : RulesAre value config.rules
  pub retention : config.retention ≡ log_retention
  pub limits : config.limits ≡ greatest_limits

-- the configuration in a story: that of `config`, or else Alertmanager's, which excludes `config`
abbrev pub IsConfigIn : (Option Hours → Type 0) → Mode → Members → Config → Type 0
IsConfigIn Clocks mode members config = MatchOption (get_member (codes "alertmanager") members)
    (Has (DecodesToConfig mode) (codes "config") members config)
    (λ value. HasNone (codes "config") members × IsReadOfTheirs Clocks value config)

-- the configuration in a file of a form
abbrev pub IsConfigOf : (Option Hours → Type 0) → Form → Data → Config → Type 0
IsConfigOf Clocks Story value config = IsSomeAnd (as_object value) (λ members. IsConfigIn Clocks Strict members config)
IsConfigOf Clocks Own value config = DecodesToConfig Strict value config
IsConfigOf Clocks Alertmanager value config = IsReadOfTheirs Clocks value config

-- a file of a form has a configuration of Alertmanager
abbrev pub HasTheirs : Form → Data → Type 0
HasTheirs Story value = IsSome (get (codes "alertmanager") value)
HasTheirs Own value = ⊥
HasTheirs Alertmanager value = Unit {0}

-- the configuration of a story, or of a file that the command line gives in its place
abbrev pub IsConfigFor : (Option Hours → Type 0) → Option Data → Mode → Members → Config → Type 0
IsConfigFor Clocks None mode members config = IsConfigIn Clocks mode members config
IsConfigFor Clocks (Some file) _ _ config = IsConfigOf Clocks (form_in file) file config

-- the file that is in place of a story's configuration, if there is one
abbrev pub file_in : Changes → Option Data
file_in changes = option_map (λ value. view value.now) changes.config

-- the configuration of `config`, whose matchers need no regex
abbrev pub DecodesPlainly : Mode → Members → Config → Type 0
DecodesPlainly mode members config =
    Has (DecodesToConfig mode) (codes "config") members config × IsTrue (config_compares_texts config)

-- the configuration of a value, whose matchers need no regex
abbrev pub DecodesWithoutRegexes : Mode → Data → Config → Type 0
DecodesWithoutRegexes mode value config = DecodesToConfig mode value config × IsTrue (config_compares_texts config)
