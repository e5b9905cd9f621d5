use Rattle.std.proofs.Common.{◌≤◌, List, length, arith}
use Rattle.std.proofs.lemmas.Result.{IfOk-weaker}
use Rattle.std.specs.List.{list_all}
use Rattle.std.specs.Prelude.{IsTrue}
use Rattle.serde_json.specs.Find.{as_array}
use Rattle.serde_json.specs.View.{items_view, view}
use Rattle.am_json.proofs.Decoding.{handed_on, missing, narrowed}
use Rattle.am_json.proofs.Members.{decoded_values}
use Rattle.am_json.specs.Decoding.{DecodeEach, IsList}
use Rattle.am_json.specs.declared.reader.Mode.TheVariants.{Lenient}
use Rattle.am_scenario.proofs.Lists.{as_list, of_list}
use Rattle.am_scenario.specs.Decoding.{DecodesToLane, lane_compares_texts}
use Rattle.am_scenario.specs.declared.scenario.Lane.{Lane}
use Rattle.am_scenario.specs.declared.scenario.TheConstants.{MAX_LANES}
use Rattle.am_scenario.proofs.scenario.read.read_few_lanes.Goals as goal

pub returns-in_err-values-clause-refused : goal.returns-in_err-values-clause-refused
returns-in_err-values-clause-refused c =
    let decodes_to = DecodesToLane Lenient in
    let value = view c.args.lanes in
    let Decodes = λ (xs : List Lane). IsList decodes_to value xs × IsTrue (list_all lane_compares_texts xs) × (length xs ≤ MAX_LANES) in
    handed_on Decodes c.from_residual.result c.in_err-values.field-0.0 c.from_residual.ensures.1
    (λ refusal xs decoded. missing (λ items. DecodeEach decodes_to items xs) (as_array value) c.in_err-values.ensures.items decoded.0)

-- more lanes than a phase may have
pub returns-then-len-gt-MAX_LANES-clause-refused : goal.returns-then-len-gt-MAX_LANES-clause-refused
returns-then-len-gt-MAX_LANES-clause-refused c = λ refusal xs decoded.
    let values = c.in_ok-values.values in
    let count = decoded_values (DecodesToLane Lenient) (as_array (view c.args.lanes)) values.items xs c.in_ok-values.ensures.items decoded.0 in
    absurd (omega (arith, count, decoded.2, values.ok.0))

pub returns-clause-bound : goal.returns-clause-bound
returns-clause-bound c =
    IfOk-weaker c.read_items.result _ _ (λ xs count. omega (arith, count)) c.read_items.ensures.count

pub returns-clause-decoded : goal.returns-clause-decoded
returns-clause-decoded c =
    let decodes_to = DecodesToLane Lenient in
    let values = items_view c.in_ok-values.values.items in
    IfOk-weaker c.read_items.result _ _ (λ xs decoded. as_list decodes_to (view c.args.lanes) values xs.items c.in_ok-values.ensures.items decoded) c.read_items.ensures.decoded

pub returns-clause-refused : goal.returns-clause-refused
returns-clause-refused c =
    let decodes_to = DecodesToLane Lenient in
    let value = view c.args.lanes in
    let values = items_view c.in_ok-values.values.items in
    let Each = λ (xs : List Lane). DecodeEach decodes_to values xs × IsTrue (list_all lane_compares_texts xs) in
    let Decodes = λ (xs : List Lane). IsList decodes_to value xs × IsTrue (list_all lane_compares_texts xs) × (length xs ≤ MAX_LANES) in
    narrowed Each Decodes (λ xs decoded. (of_list decodes_to value values xs c.in_ok-values.ensures.items decoded.0, decoded.1)) c.read_items.result c.read_items.ensures.refused
