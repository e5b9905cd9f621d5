use Rattle.std.proofs.Common.{◌≡◌, ◌+◌, ◌<◌, ◌++◌, ◌∷◌, ◌∙◌, [], List, ap, length, subst, sym, take, vec_len, arith}
use Rattle.std.proofs.lemmas.List.{take_more}
use Rattle.std.specs.List.{list_all}
use Rattle.std.specs.Prelude.{IsTrue}
use Rattle.serde_json.specs.Find.{as_array}
use Rattle.serde_json.specs.View.{items_view, view}
use Rattle.serde_json.specs.declared.value.Value.{Value}
use Rattle.am_json.specs.Decoding.{DecodeEach, IsList}
use Rattle.am_json.specs.declared.reader.Mode.{Mode}
use Rattle.am_json.proofs.Decoding.{handed_on, missing, starved}
use Rattle.am_json.proofs.Members.{has_all, decode_more, decoded_list}
use Rattle.am_json.proofs.reader.Reader.list.Goals as goal

pub loop-index-preserved : goal.loop-index-preserved
loop-index-preserved g c =
    let decodes_to = g.T.FromJson.decodes_to c.args.self.now.mode in
    let values = c.in_ok-values.values.now in
    let i = c.loop-index.index in
    let value = c.index-values-index.result in
    let x = c.in_ok-read.field-0 in
    let here : i < length values = omega arith in
    let taken : take (i + 1) values ≡ take i values ++ value ∷ [] =
    take_more values i value here ∙ ap (λ (v : Value). take i values ++ v ∷ []) (sym c.index-values-index.is) in
    let read : decodes_to (view value) x =
    subst (λ (v : Value). decodes_to (view v) x) c.item.ensures.value
    (subst (λ mode. g.T.FromJson.decodes_to mode (view c.item.result.value) x) c.item.ensures.mode c.in_ok-read.ensures.decoded) in
    let more = decode_more decodes_to (take i values) c.loop-index.items.items value x c.loop-index.invariant.decoded read in
    let pushed = c.in_ok-push.ensures.items in
    record {
      count = omega (arith, c.in_ok-push.ensures.len, c.loop-index.invariant.count);
      decoded = subst (λ xs. DecodeEach decodes_to (items_view (take (i + 1) values)) xs) (sym pushed)
          (subst (λ (vs : List Value). DecodeEach decodes_to (items_view vs) (c.loop-index.items.items ++ x ∷ [])) (sym taken) more);
    }

-- the walk ends where the array does
pub returns-clause-count : goal.returns-clause-count
returns-clause-count g c =
    let all : vec_len c.loop-index.items ≡ length c.in_ok-values.values.now = omega arith in
    has_all _ c.in_ok-values.values.now _ c.in_ok-values.ensures.items all

pub returns-in_err-values-clause-refused : goal.returns-in_err-values-clause-refused
returns-in_err-values-clause-refused g c =
    let decodes_to = g.T.FromJson.decodes_to c.args.self.now.mode in
    let array = as_array (view c.args.self.now.value) in
    let Decodes = λ (xs : List g.row.T.Denot). IsList decodes_to (view c.args.self.now.value) xs × IsTrue (list_all g.T.FromJson.never_refused xs) in
    handed_on Decodes c.from_residual.result c.in_err-values.field-0.0 c.from_residual.ensures.1
    (λ refusal xs decoded. missing (λ items. DecodeEach decodes_to items xs) array c.in_err-values.ensures.items decoded.0)

-- an item that says nothing that is sure to be read
pub returns-in_err-read-clause-refused : goal.returns-in_err-read-clause-refused
returns-in_err-read-clause-refused g c =
    let decodes_to = g.T.FromJson.decodes_to c.args.self.now.mode in
    let array = as_array (view c.args.self.now.value) in
    let values = c.in_ok-values.values.now in
    let i = c.loop-index.index in
    let value = c.index-values-index.result in
    let here : i < length values = omega arith in
    let Decodes = λ (xs : List g.row.T.Denot). IsList decodes_to (view c.args.self.now.value) xs × IsTrue (list_all g.T.FromJson.never_refused xs) in
    handed_on Decodes c.from_residual-in_err-read.result c.in_err-read.field-0.0 c.from_residual-in_err-read.ensures.1
    (λ refusal xs decoded.
    let at = decoded_list decodes_to g.T.FromJson.never_refused array values xs i value c.in_ok-values.ensures.items here c.index-values-index.is decoded.0 decoded.1 in
    c.in_err-read.ensures.refused refusal at.0 (
      subst (λ (mode : Mode). g.T.FromJson.decodes_to mode (view c.item.result.value) at.0) (sym c.item.ensures.mode)
          (subst (λ (v : Value). decodes_to (view v) at.0) (sym c.item.ensures.value) at.1),
      at.2,
    ))

pub returns-in_err-push-clause-refused : goal.returns-in_err-push-clause-refused
returns-in_err-push-clause-refused g c =
    let decodes_to = g.T.FromJson.decodes_to c.args.self.now.mode in
    let Decodes = λ (xs : List g.row.T.Denot). IsList decodes_to (view c.args.self.now.value) xs × IsTrue (list_all g.T.FromJson.never_refused xs) in
    starved Decodes c.from_residual-in_err-push.result c.from_residual-in_err-push.ensures.1
