use Rattle.std.proofs.Common.{true, codes}
use Rattle.std.specs.Prelude.{IsTrue}
use Rattle.serde_json.specs.Data.{Data}
use Rattle.serde_json.specs.Find.{as_object, get_member}
use Rattle.serde_json.specs.View.{members_view, view}
use Rattle.am_json.proofs.Decoding.{all_sure, found, handed_on}
use Rattle.am_json.specs.Decoding.{IsList}
use Rattle.am_scenario.specs.Decoding.{DecodesToPlanned, DecodesToScript, HasScript}
use Rattle.am_scenario.specs.declared.scenario.script.Script.{Script}
use Rattle.am_scenario.proofs.scenario.script.ScriptFromJson.read.Goals as goal

-- what is never refused
abbrev Decodes : Data → Script → Type 0
Decodes value script = DecodesToScript value script × IsTrue true

pub returns-in_err-list-clause-refused : goal.returns-in_err-list-clause-refused
returns-in_err-list-clause-refused c =
    let value = view c.args.reader.now.value in
    let members = members_view c.in_ok-script.script.members in
    handed_on (Decodes value) c.from_residual-in_err-list.result c.in_err-list.field-0.0 c.from_residual-in_err-list.ensures.1
    (λ refusal x decoded.
    let has = found ⊥ (λ ms. HasScript ms x) members (as_object value) c.in_ok-script.ensures.members decoded.0 in
    let listed = found ⊥ (λ v. IsList DecodesToPlanned v x.answers.items) (view c.in_ok-required-3.field-0.value) (get_member (codes "script") members)
    c.in_ok-required-3.ensures.value has.answers in
    c.in_err-list.ensures.refused refusal x.answers.items (listed, all_sure x.answers.items))
