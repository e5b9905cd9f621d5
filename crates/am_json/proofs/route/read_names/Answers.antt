use Rattle.std.proofs.Common.{◌≡◌, ◌≤◌, ◌∙◌, ℕ, List, length, ap, sym, arith}
use Rattle.std.specs.List.{list_any}
use Rattle.std.specs.Str.{bytes_eq}
use Rattle.serde_json.specs.Find.{as_array}
use Rattle.serde_json.specs.View.{view}
use Rattle.am_json.specs.Configured.{IsGroupBy, all_labels}
use Rattle.am_json.proofs.Decoding.{handed_on}
use Rattle.am_json.proofs.Names.{all_alone, excluded_names, no_more_names}
use Rattle.am_json.proofs.route.read_names.Goals as goal

pub returns-clause-decoded : goal.returns-clause-decoded
returns-clause-decoded c =
    let names = c.in_ok-names.names.items in
    let few : length names ≤ 1 = omega (arith, c.if-len-gt1.false, c.len.ensures, c.in_ok-names.names.ok.0) in
    let same : c.as_slice.result.now ≡ names = c.as_slice.ensures.value in
    let all = ap (λ (ns : List (List ℕ)). list_any (λ name. bytes_eq name all_labels) ns) (sym same) ∙ sym c.has_all_labels.ensures ∙ c.if-not-has_all_labels.false in
    all_alone (as_array (view c.args.member.now.value)) names c.in_ok-names.ensures.decoded all few

pub returns-in_err-names-clause-refused : goal.returns-in_err-names-clause-refused
returns-in_err-names-clause-refused c =
    let value = view c.args.member.now.value in
    handed_on (IsGroupBy value) c.from_residual.result c.in_err-names.field-0.0 c.from_residual.ensures.1
    (λ refusal g decoded. excluded_names value g (c.in_err-names.ensures.refused refusal) decoded)

-- what represents all labels, and not alone
pub returns-then-len-gt1-clause-refused : goal.returns-then-len-gt1-clause-refused
returns-then-len-gt1-clause-refused c refusal g decoded =
    let names = c.in_ok-names.names.items in
    let same : c.as_slice.result.now ≡ names = c.as_slice.ensures.value in
    let all = ap (λ (ns : List (List ℕ)). list_any (λ name. bytes_eq name all_labels) ns) (sym same) ∙ sym c.has_all_labels.ensures ∙ c.if-not-has_all_labels.false in
    no_more_names (view c.args.member.now.value) g names c.in_ok-names.ensures.decoded all (omega (arith, c.if-len-gt1.true, c.len.ensures, c.in_ok-names.names.ok.0)) decoded
