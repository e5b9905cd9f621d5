use Rattle.std.proofs.Common.{◌≡◌, ◌∙◌, ◌++◌, ◌-◌, suc, string_bytes, ap, append_assoc, arith, sym}
use Rattle.std.proofs.lemmas.List.{append-nil}
use Rattle.std.proofs.lemmas.Str.{IsUtf8-past_char}
use Rattle.std.specs.Str.Iter.{chars_rest}
use Rattle.am_timeline.specs.Escaped.{char_escaped, escaped_up_to}
use Rattle.am_timeline.proofs.Escaping.{cut-end, cut-past}
use Rattle.am_timeline.proofs.escape.push_cut.Goals as goal

pub loop-c-preserved : goal.loop-c-preserved
loop-c-preserved c =
    let here = chars_rest c.loop-c.c-iterator in
    let rest = chars_rest c.next.new.self in
    let step = c.in-Some.ensures.steps.0 in
    let left : c.loop-c.left ≡ suc (c.loop-c.left - 1) = omega (arith, c.if-left-eq0.false) in
    record {
      text = ap (λ t. t ++ escaped_up_to (c.loop-c.left - 1) rest) c.in_ok-push_char.ensures
          ∙ append_assoc (string_bytes c.loop-c.out) (char_escaped c.in-Some.c) (escaped_up_to (c.loop-c.left - 1) rest)
          ∙ ap (λ t. string_bytes c.loop-c.out ++ t)
          (sym (ap (λ n. escaped_up_to n here) left ∙ cut-past here rest c.in-Some.c (c.loop-c.left - 1) c.loop-c.invariant.is_text step))
          ∙ c.loop-c.invariant.text;
      is_text = IsUtf8-past_char here rest c.in-Some.c c.loop-c.invariant.is_text step;
    }

pub returns : goal.returns
returns c =
    sym (ap (λ t. string_bytes c.loop-c.out ++ t) (cut-end (chars_rest c.loop-c.c-iterator) c.loop-c.left c.in-None.ensures.steps.0.0)
    ∙ append-nil (string_bytes c.loop-c.out))
    ∙ c.loop-c.invariant.text
