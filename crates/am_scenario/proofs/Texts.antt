-- Bytes that are the text of a scenario.
use Rattle.std.proofs.Common.{◌≡◌, ℕ, List, Option, Some, None, MatchOption, codes, subst}
use Rattle.std.specs.Prelude.{IsTrue}
use Rattle.serde_json.specs.Data.{Data, Members}
use Rattle.serde_json.specs.Find.{as_object, get_member}
use Rattle.serde_json.specs.Read.{read}
use Rattle.am_json.specs.Configured.{DecodesToConfig}
use Rattle.am_json.specs.Read.{Excludes, is_refusal}
use Rattle.am_json.specs.declared.fault.InputFault.{InputFault}
use Rattle.am_json.specs.declared.reader.Mode.TheVariants.{Lenient}
use Rattle.am_model.specs.Config.{config_fault}
use Rattle.am_model.specs.declared.config.Config.{Config}
use Rattle.am_scenario.specs.Decoding.{DecodesToScenario, HasScenario, IsScenarioIn, scenario_compares_texts}
use Rattle.am_scenario.specs.declared.scenario.Scenario.{Scenario}

config_there : (found : Option Data) (config : Config) → MatchOption found ⊥ (λ v. DecodesToConfig Lenient v config) → config_fault config ≡ None
config_there None config decoded = absurd decoded
config_there (Some v) config decoded = decoded.sound

config_in : (found : Option Members) (scenario : Scenario) → MatchOption found ⊥ (λ ms. HasScenario ms scenario) → config_fault scenario.config ≡ None
config_in None scenario decoded = absurd decoded
config_in (Some ms) scenario decoded = config_there (get_member (codes "config") ms) scenario.config decoded.config

-- its configuration has no fault
pub sound_config : (input : List ℕ) (scenario : Scenario) → IsScenarioIn input scenario → config_fault scenario.config ≡ None
sound_config input scenario decoded = config_in (as_object decoded.value) scenario decoded.decoded

-- bytes whose value is refused are the text of none
pub no_text : (input : List ℕ) (value : Data) (fault : InputFault) → read input ≡ Some value
    → Excludes (λ scenario. DecodesToScenario value scenario × IsTrue (scenario_compares_texts scenario)) fault
    → IsTrue (is_refusal fault) → (scenario : Scenario) → IsScenarioIn input scenario → IsTrue (scenario_compares_texts scenario) → ⊥
no_text input value fault text excluded refusal scenario decoded without =
    let same : decoded.value ≡ value = cc (decoded.text) in
    excluded refusal scenario (subst (λ (v : Data). DecodesToScenario v scenario) same decoded.decoded, without)
