use Rattle.std.proofs.Common.{rules, ◌≡◌, ◌++◌, ◌∷◌, ◌∙◌, [], ap, map, string_bytes, sym, arith}
use Rattle.std.proofs.lemmas.Str.Pattern.{split_parts}
use Rattle.std.specs.Prelude.{None, Some}
use Rattle.am_json.specs.MatcherText.{Lacks}
use Rattle.am_config.specs.Matchers.{at_comma, pieces, trimmed, with_front}
use Rattle.am_config.proofs.Pieces.{pieces_last, pieces_step, trimmed_last}
use Rattle.am_config.proofs.matchers.split.Goals as goal

pub loop-before-preserved : goal.loop-before-preserved
loop-before-preserved c =
    let l = c.loop-before in
    let ended = map string_bytes l.ended.items in
    let begun = string_bytes l.begun in
    let before = c.in-Some.before.now in
    let behind = c.in-Some.behind.now in
    let quoting = c.behind-quoting.result in
    let parts = split_parts 44 l.rest.now (Some (c.in-Some.before, c.in-Some.behind)) c.in-Some.ensures.cases (omega arith) in
    record {
      are =
          l.invariant.are
          ∙ ap (λ rest. ended ++ with_front begun (pieces l.quoting rest)) parts.0
          ∙ pieces_step ended begun before behind l.quoting parts.1
          ∙ ap (λ q. ended ++ with_front (begun ++ before) (at_comma q.is_open (pieces q behind))) (sym c.behind-quoting.ensures)
          ∙ ap (λ text. ended ++ with_front text (at_comma quoting.is_open (pieces quoting behind))) (sym c.in_ok-push_str.ensures.bytes)
          ∙ c.in_ok-end_piece.ensures (pieces quoting behind);
      text = search rules;
    }

pub returns : goal.returns
returns c =
    let l = c.loop-before in
    let ended = map string_bytes l.ended.items in
    let begun = string_bytes l.begun in
    let rest = l.rest.now in
    let comma : Lacks 44 rest = split_parts 44 rest None c.in_default.ensures.cases (omega arith) in
    let last = c.as_str.result.now in
    let is : begun ++ rest ≡ last = sym c.in_ok-push_str-2.ensures.bytes ∙ sym c.as_str.ensures.value in
    c.in_ok-push_last.ensures
    ∙ sym (ap trimmed (l.invariant.are ∙ pieces_last ended begun rest l.quoting comma ∙ ap (λ text. ended ++ text ∷ []) is) ∙ trimmed_last ended last)
