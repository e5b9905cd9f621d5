use Rattle.std.proofs.Common.{◌≡◌, ◌∙◌, [], Some, false, codes, ap, refl, arith}
use Rattle.std.specs.Prelude.{IsTrue}
use Rattle.serde_json.specs.Data.{Data}
use Rattle.serde_json.specs.Find.{as_bool, as_object, get_member}
use Rattle.serde_json.specs.View.{members_view, view}
use Rattle.serde_json.specs.declared.value.Value.{Value}
use Rattle.am_json.proofs.Decoding.{as_decoded, decoded_by, decoded_or, handed_on, in_object}
use Rattle.am_json.specs.Decoding.{IsNumber}
use Rattle.am_json.specs.declared.reader.Mode.TheVariants.{Lenient}
use Rattle.am_scenario.proofs.Lists.{among_members, out_of_members}
use Rattle.am_scenario.specs.Decoding.{DecodesToLane, DecodesToPhase, HasPhase, phase_compares_texts}
use Rattle.am_scenario.specs.declared.scenario.Phase.{Phase}
use Rattle.am_scenario.proofs.scenario.read.PhaseFromOwned.read_owned.Goals as goal

-- what is never refused
abbrev Decodes : Data → Phase → Type 0
Decodes value phase = DecodesToPhase Lenient value phase × IsTrue (phase_compares_texts phase)

pub returns-clause-decoded : goal.returns-clause-decoded
returns-clause-decoded c =
    let value = view c.args.value in
    let members = members_view c.in_ok-phase.phase.members in
    let is : Some members ≡ as_object value = c.in_ok-phase.ensures.members ∙ ap (λ (v : Value). as_object (view v)) c.top-reader.ensures.value in
    let lanes = c.in_ok-lanes.lanes.items in
    as_decoded HasPhase Lenient Lenient members value _ is refl (record {
      at = decoded_by IsNumber (get_member (codes "at") members) (view c.in_ok-required.field-0.value) c.in_ok-at.at
          c.in_ok-required.ensures.value c.in_ok-at.ensures.number;
      flush = decoded_or as_bool false c.in_ok-flush.flush (get_member (codes "flush") members) c.in_ok-flush.ensures.value;
      lanes = among_members (lanes ≡ []) (DecodesToLane Lenient) (codes "lanes") value members lanes is c.in_ok-lanes.ensures.decoded;
    })

pub returns-in_err-lanes-clause-refused : goal.returns-in_err-lanes-clause-refused
returns-in_err-lanes-clause-refused c =
    let value = view c.args.value in
    let members = members_view c.in_ok-phase.phase.members in
    let is : Some members ≡ as_object value = c.in_ok-phase.ensures.members ∙ ap (λ (v : Value). as_object (view v)) c.top-reader.ensures.value in
    handed_on (Decodes value) c.from_residual-in_err-lanes.result c.in_err-lanes.field-0.0 c.from_residual-in_err-lanes.ensures.1
    (λ refusal x decoded.
    let has = in_object HasPhase Lenient Lenient members value x is refl decoded.0 in
    let lanes = x.lanes.items in
    c.in_err-lanes.ensures.refused refusal lanes
    (out_of_members (lanes ≡ []) (DecodesToLane Lenient) (codes "lanes") value members lanes is has.lanes, decoded.1, omega (arith, x.few_lanes, x.lanes.ok.0)))
