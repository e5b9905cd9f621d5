use Rattle.std.proofs.Common.{◌≡◌, ◌∙◌, ◌++◌, ◌∷◌, [], List, length, subst, sym, arith}
use Rattle.std.proofs.lemmas.Iterator.Adapters.{YieldsList-from_vec}
use Rattle.std.proofs.lemmas.Iterator.Consumers.{YieldsList-end, YieldsList-turn}
use Rattle.std.proofs.lemmas.List.{length_push, map-id}
use Rattle.std.specs.List.{list_all}
use Rattle.std.specs.Prelude.{IsTrue}
use Rattle.serde_json.specs.View.{items_view}
use Rattle.serde_json.specs.declared.value.Value.{Value}
use Rattle.am_json.specs.Decoding.{DecodeEach}
use Rattle.am_json.proofs.Decoding.{handed_on, starved}
use Rattle.am_json.proofs.Members.{decode_more, decoded_at}
use Rattle.am_scenario.proofs.scenario.items.read_items.Goals as goal

pub loop-value-preserved : goal.loop-value-preserved
loop-value-preserved g c =
    let decodes_to = g.T.FromOwned.decodes_to in
    let yielded = c.loop-value.yielded in
    let value = c.in-Some.value in
    let more = decode_more decodes_to yielded c.loop-value.items.items value c.in_ok-read_item.field-0 c.loop-value.invariant.decoded c.in_ok-read_item.ensures.decoded in
    record {
      count = omega (arith, c.in_ok-push.ensures.len, c.loop-value.invariant.count, length_push yielded value);
      decoded = subst (λ xs. DecodeEach decodes_to (items_view (yielded ++ value ∷ [])) xs) (sym c.in_ok-push.ensures.items) more;
    }

-- the walk ends where the list does
pub returns-clause-count : goal.returns-clause-count
returns-clause-count g c =
    let gives = c.into_iter-value-iterator.ensures.into_iter_gives in
    let end = YieldsList-end (YieldsList-from_vec {s = c.into_iter-value-iterator.result} c.args.values.items gives.0 (gives.1 ∙ c.args.values.ok.0)) c.loop-value.yielded c.loop-value.value-iterator c.loop-value.yielded_by c.next.result c.next.new.self c.in-None.is c.next.ensures.steps in
    omega (arith, c.loop-value.invariant.count, end.1, c.args.values.ok.0)

pub returns-clause-decoded : goal.returns-clause-decoded
returns-clause-decoded g c =
    let gives = c.into_iter-value-iterator.ensures.into_iter_gives in
    let end = YieldsList-end (YieldsList-from_vec {s = c.into_iter-value-iterator.result} c.args.values.items gives.0 (gives.1 ∙ c.args.values.ok.0)) c.loop-value.yielded c.loop-value.value-iterator c.loop-value.yielded_by c.next.result c.next.new.self c.in-None.is c.next.ensures.steps in
    let whole : c.loop-value.yielded ≡ c.args.values.items = sym (map-id c.loop-value.yielded) ∙ end.0 in
    subst (λ (vs : List Value). DecodeEach g.T.FromOwned.decodes_to (items_view vs) c.loop-value.items.items) whole
    c.loop-value.invariant.decoded

-- a value that says nothing that is sure to be read
pub returns-in_err-read_item-clause-refused : goal.returns-in_err-read_item-clause-refused
returns-in_err-read_item-clause-refused g c =
    let decodes_to = g.T.FromOwned.decodes_to in
    let values = c.args.values.items in
    let gives = c.into_iter-value-iterator.ensures.into_iter_gives in
    let turn = YieldsList-turn (YieldsList-from_vec {s = c.into_iter-value-iterator.result} values gives.0 (gives.1 ∙ c.args.values.ok.0)) c.loop-value.yielded c.loop-value.value-iterator c.loop-value.yielded_by c.next.result c.next.new.self c.in-Some.value c.in-Some.is c.next.ensures.steps in
    let Decodes = λ (xs : List g.row.T.Denot). DecodeEach decodes_to (items_view values) xs × IsTrue (list_all g.T.FromOwned.never_refused xs) in
    handed_on Decodes c.from_residual.result c.in_err-read_item.field-0.0 c.from_residual.ensures.1
    (λ refusal xs decoded.
    let at = decoded_at decodes_to g.T.FromOwned.never_refused values xs (length c.loop-value.yielded) c.in-Some.value turn.0 turn.1 decoded.0 decoded.1 in
    c.in_err-read_item.ensures.refused refusal at.0 (at.1, at.2))

pub returns-in_err-push-clause-refused : goal.returns-in_err-push-clause-refused
returns-in_err-push-clause-refused g c =
    let Decodes = λ (xs : List g.row.T.Denot). DecodeEach g.T.FromOwned.decodes_to (items_view c.args.values.items) xs
    × IsTrue (list_all g.T.FromOwned.never_refused xs) in
    starved Decodes c.from_residual-in_err-push.result c.from_residual-in_err-push.ensures.1
