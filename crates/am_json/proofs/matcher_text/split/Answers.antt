use Rattle.std.proofs.Common.{◌≡◌, ◌++◌, length, get_or, refl, sym, ◌∙◌}
use Rattle.std.proofs.lemmas.List.{take-append-drop}
use Rattle.std.proofs.lemmas.List.Quantifiers.{position-Some}
use Rattle.std.proofs.lemmas.Str.{IsCharBoundary-before_ascii}
use Rattle.am_json.proofs.MatcherTexts.{front_is, operator_ascii}
use Rattle.am_alerts.specs.Matcher.{operator_text}
use Rattle.am_json.specs.MatcherText.{begins_operator}
use Rattle.am_json.proofs.matcher_text.split.Goals as goal

pub split_at-requires : goal.split_at-requires
split_at-requires c =
    let text = c.args.text.now in
    let i = c.in_ok-operator_index.field-0 in
    let at = position-Some begins_operator text i 0 (sym c.in_ok-operator_index.ensures) in
    IsCharBoundary-before_ascii text i at.0 (operator_ascii (get_or text i 0) at.1)

-- no operator where the first one would begin
pub returns-in_err-op-clause-none : goal.returns-in_err-op-clause-none
returns-in_err-op-clause-none c none name value op is begins =
    let text = c.args.text.now in
    let front = c.split_at.result.0.now in
    let rest = c.split_at.result.1.now in
    let at = c.in_ok-operator_index.field-0 in
    let pointer : at ≡ length name = cc (c.in_ok-operator_index.ensures, begins) in
    let parts = c.split_at.ensures in
    let whole : front ++ rest ≡ name ++ (operator_text op ++ value) =
    (λ i. parts.front i ++ parts.back i) ∙ take-append-drop at text ∙ is in
    let cut = front_is front rest name (operator_text op ++ value) whole (parts.front_len ∙ pointer) in
    c.in_err-op.ensures.none refl value op cut.1
