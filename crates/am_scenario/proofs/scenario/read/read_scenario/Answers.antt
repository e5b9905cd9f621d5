use Rattle.std.proofs.Common.{◌≡◌, ◌∙◌, Some, codes, ap, refl}
use Rattle.std.specs.List.{list_all}
use Rattle.std.specs.Prelude.{IsTrue}
use Rattle.serde_json.specs.Data.{Data, Members}
use Rattle.serde_json.specs.Find.{as_object, get_member}
use Rattle.serde_json.specs.View.{members_view, view}
use Rattle.serde_json.specs.declared.value.Value.{Value}
use Rattle.am_json.proofs.Decoding.{all_sure, as_decoded, as_decoded_in, found, handed_on, decoded_in}
use Rattle.am_json.proofs.Members.{first, second}
use Rattle.am_json.specs.Configured.{DecodesToConfig, config_compares_texts}
use Rattle.am_json.specs.declared.reader.Mode.{Mode}
use Rattle.am_json.specs.declared.reader.Mode.TheVariants.{Lenient}
use Rattle.am_scenario.proofs.Lists.{among_members, out_of_members}
use Rattle.am_scenario.specs.Decoding.{DecodesToPhase, DecodesToScenario, HasScenario, phase_compares_texts, scenario_compares_texts}
use Rattle.am_scenario.specs.declared.scenario.Scenario.{Scenario}
use Rattle.am_scenario.proofs.scenario.read.read_scenario.Goals as goal

-- what is never refused
abbrev Decodes : Data → Scenario → Type 0
Decodes value scenario = DecodesToScenario value scenario × IsTrue (scenario_compares_texts scenario)

inside : (value : Data) (members : Members) (scenario : Scenario) → Some members ≡ as_object value → Decodes value scenario → HasScenario members scenario
inside value members scenario is decoded = found ⊥ (λ ms. HasScenario ms scenario) members (as_object value) is decoded.0

pub returns-clause-decoded : goal.returns-clause-decoded
returns-clause-decoded c =
    let value = view c.args.value in
    let members : Members = members_view c.in_ok-top.top.members in
    let is : Some members ≡ as_object value = c.in_ok-top.ensures.members ∙ ap (λ (v : Value). as_object (view v)) c.top-reader.ensures.value in
    let lenient : c.in_ok-top.top.mode ≡ Lenient = c.in_ok-top.ensures.mode ∙ c.top-reader.ensures.mode in
    as_decoded (λ (d : Mode). HasScenario) Lenient Lenient members value _ is refl (record {
      config = as_decoded_in DecodesToConfig Lenient c.in_ok-required.field-0.mode (view c.in_ok-required.field-0.value) (get_member (codes "config") members)
          c.in_ok-config.config c.in_ok-required.ensures.value (c.in_ok-required.ensures.mode ∙ lenient) c.in_ok-config.ensures.decoded;
      workers = c.in_ok-workers.ensures.decoded;
      scripts = c.in_ok-scripts.ensures.decoded;
      phases = among_members ⊥ (DecodesToPhase Lenient) (codes "phases") value members c.in_ok-phases.phases.items is c.in_ok-phases.ensures.decoded;
    })

pub returns-in_err-config-clause-refused : goal.returns-in_err-config-clause-refused
returns-in_err-config-clause-refused c =
    let value = view c.args.value in
    let members = members_view c.in_ok-top.top.members in
    let is : Some members ≡ as_object value = c.in_ok-top.ensures.members ∙ ap (λ (v : Value). as_object (view v)) c.top-reader.ensures.value in
    let lenient : c.in_ok-top.top.mode ≡ Lenient = c.in_ok-top.ensures.mode ∙ c.top-reader.ensures.mode in
    handed_on (Decodes value) c.from_residual-in_err-config.result c.in_err-config.field-0.0 c.from_residual-in_err-config.ensures.1
    (λ refusal x decoded. c.in_err-config.ensures.refused refusal x.config (
      decoded_in DecodesToConfig Lenient c.in_ok-required.field-0.mode (view c.in_ok-required.field-0.value) (get_member (codes "config") members) x.config
          c.in_ok-required.ensures.value (c.in_ok-required.ensures.mode ∙ lenient) (inside value members x is decoded).config,
      first (config_compares_texts x.config) (list_all phase_compares_texts x.phases.items) decoded.1,
    ))

pub returns-in_err-workers-clause-refused : goal.returns-in_err-workers-clause-refused
returns-in_err-workers-clause-refused c =
    let value = view c.args.value in
    let members = members_view c.in_ok-top.top.members in
    let is : Some members ≡ as_object value = c.in_ok-top.ensures.members ∙ ap (λ (v : Value). as_object (view v)) c.top-reader.ensures.value in
    handed_on (Decodes value) c.from_residual-in_err-workers.result c.in_err-workers.field-0.0 c.from_residual-in_err-workers.ensures.1
    (λ refusal x decoded. c.in_err-workers.ensures.refused refusal x.workers ((inside value members x is decoded).workers, x.some_workers, x.few_workers))

pub returns-in_err-scripts-clause-refused : goal.returns-in_err-scripts-clause-refused
returns-in_err-scripts-clause-refused c =
    let value = view c.args.value in
    let members = members_view c.in_ok-top.top.members in
    let is : Some members ≡ as_object value = c.in_ok-top.ensures.members ∙ ap (λ (v : Value). as_object (view v)) c.top-reader.ensures.value in
    handed_on (Decodes value) c.from_residual-in_err-scripts.result c.in_err-scripts.field-0.0 c.from_residual-in_err-scripts.ensures.1
    (λ refusal x decoded. c.in_err-scripts.ensures.refused refusal x.scripts.items ((inside value members x is decoded).scripts, all_sure x.scripts.items))

pub returns-in_err-phases-clause-refused : goal.returns-in_err-phases-clause-refused
returns-in_err-phases-clause-refused c =
    let value = view c.args.value in
    let members = members_view c.in_ok-top.top.members in
    let is : Some members ≡ as_object value = c.in_ok-top.ensures.members ∙ ap (λ (v : Value). as_object (view v)) c.top-reader.ensures.value in
    handed_on (Decodes value) c.from_residual-in_err-phases.result c.in_err-phases.field-0.0 c.from_residual-in_err-phases.ensures.1
    (λ refusal x decoded. c.in_err-phases.ensures.refused refusal x.phases.items (
      out_of_members ⊥ (DecodesToPhase Lenient) (codes "phases") value members x.phases.items is (inside value members x is decoded).phases,
      second (config_compares_texts x.config) (list_all phase_compares_texts x.phases.items) decoded.1,
    ))
