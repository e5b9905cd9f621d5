use Rattle.std.proofs.Common.{◌≡◌, ◌≤◌, List, [], codes, length, vec_len}
use Rattle.std.proofs.lemmas.Result.{IfOk-weaker}
use Rattle.std.specs.List.{list_all}
use Rattle.std.specs.Prelude.{IsTrue, MatchOption}
use Rattle.serde_json.specs.Find.{get}
use Rattle.serde_json.specs.View.{view}
use Rattle.am_json.proofs.Decoding.{found, narrowed}
use Rattle.am_json.specs.Decoding.{IsList}
use Rattle.am_json.specs.declared.reader.Mode.TheVariants.{Lenient}
use Rattle.am_scenario.proofs.Lists.{listed, refused_under, decoded_under}
use Rattle.am_scenario.specs.Decoding.{DecodesToLane, lane_compares_texts}
use Rattle.am_scenario.specs.declared.scenario.Lane.{Lane}
use Rattle.am_scenario.specs.declared.scenario.TheConstants.{MAX_LANES}
use Rattle.am_scenario.proofs.scenario.read.read_lanes.Goals as goal

pub returns-in-Some-clause-bound : goal.returns-in-Some-clause-bound
returns-in-Some-clause-bound c =
    decoded_under (λ xs. vec_len xs ≤ MAX_LANES) c.read_few_lanes.result c.under.result c.under.ensures.decoded c.read_few_lanes.ensures.bound

pub returns-in-Some-clause-decoded : goal.returns-in-Some-clause-decoded
returns-in-Some-clause-decoded c =
    let member = get (codes "lanes") (view c.args.phase) in
    decoded_under _ c.read_few_lanes.result c.under.result c.under.ensures.decoded
    (IfOk-weaker c.read_few_lanes.result _ (λ xs. MatchOption member (xs.items ≡ []) (λ v. IsList (DecodesToLane Lenient) v xs.items))
    (λ xs decoded. listed (xs.items ≡ []) (DecodesToLane Lenient) (view c.in-Some.lanes) member xs.items c.in-Some.ensures decoded) c.read_few_lanes.ensures.decoded)

pub returns-in-Some-clause-refused : goal.returns-in-Some-clause-refused
returns-in-Some-clause-refused c =
    let lanes = view c.in-Some.lanes in
    let member = get (codes "lanes") (view c.args.phase) in
    let There = λ (xs : List Lane). IsList (DecodesToLane Lenient) lanes xs × IsTrue (list_all lane_compares_texts xs) × (length xs ≤ MAX_LANES) in
    let Decodes = λ (xs : List Lane). MatchOption member (xs ≡ []) (λ v. IsList (DecodesToLane Lenient) v xs) × IsTrue (list_all lane_compares_texts xs)
    × (length xs ≤ MAX_LANES) in
    refused_under Decodes c.read_few_lanes.result c.under.result c.under.ensures.refused
    (narrowed There Decodes (λ xs decoded. (found (xs ≡ []) (λ v. IsList (DecodesToLane Lenient) v xs) lanes member c.in-Some.ensures decoded.0, decoded.1, decoded.2))
    c.read_few_lanes.result c.read_few_lanes.ensures.refused)
