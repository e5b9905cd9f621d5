use Rattle.std.proofs.Common.{List}
use Rattle.std.proofs.lemmas.Result.{IfOk-weaker}
use Rattle.std.specs.List.{list_all}
use Rattle.std.specs.Prelude.{IsTrue}
use Rattle.serde_json.specs.Find.{as_array}
use Rattle.serde_json.specs.View.{items_view, view}
use Rattle.am_json.proofs.Decoding.{handed_on, missing, narrowed}
use Rattle.am_json.specs.Decoding.{DecodeEach, IsList}
use Rattle.am_scenario.proofs.Lists.{as_list, of_list}
use Rattle.am_scenario.proofs.scenario.items.read_list.Goals as goal

pub returns-in_err-values-clause-refused : goal.returns-in_err-values-clause-refused
returns-in_err-values-clause-refused g c =
    let decodes_to = g.T.FromOwned.decodes_to in
    let value = view c.args.value in
    let Decodes = λ (xs : List g.row.T.Denot). IsList decodes_to value xs × IsTrue (list_all g.T.FromOwned.never_refused xs) in
    handed_on Decodes c.from_residual.result c.in_err-values.field-0.0 c.from_residual.ensures.1
    (λ refusal xs decoded. missing (λ items. DecodeEach decodes_to items xs) (as_array value) c.in_err-values.ensures.items decoded.0)

pub returns-clause-decoded : goal.returns-clause-decoded
returns-clause-decoded g c =
    let decodes_to = g.T.FromOwned.decodes_to in
    let values = items_view c.in_ok-values.values.items in
    IfOk-weaker c.read_items.result _ _ (λ xs decoded. as_list decodes_to (view c.args.value) values xs.items c.in_ok-values.ensures.items decoded) c.read_items.ensures.decoded

pub returns-clause-refused : goal.returns-clause-refused
returns-clause-refused g c =
    let decodes_to = g.T.FromOwned.decodes_to in
    let value = view c.args.value in
    let values = items_view c.in_ok-values.values.items in
    let Each = λ (xs : List g.row.T.Denot). DecodeEach decodes_to values xs × IsTrue (list_all g.T.FromOwned.never_refused xs) in
    let Decodes = λ (xs : List g.row.T.Denot). IsList decodes_to value xs × IsTrue (list_all g.T.FromOwned.never_refused xs) in
    narrowed Each Decodes (λ xs decoded. (of_list decodes_to value values xs c.in_ok-values.ensures.items decoded.0, decoded.1)) c.read_items.result c.read_items.ensures.refused
