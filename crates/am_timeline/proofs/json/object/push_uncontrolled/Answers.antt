use Rattle.std.proofs.Common.{◌++◌, string_bytes, ap, sym, ◌∙◌, append_assoc}
use Rattle.std.proofs.lemmas.List.{append-nil}
use Rattle.std.proofs.lemmas.Str.{IsUtf8-past_char}
use Rattle.std.specs.Str.Iter.{chars_rest}
use Rattle.am_timeline.specs.Json.{char_uncontrolled, uncontrolled}
use Rattle.am_timeline.proofs.Uncontrolled.{uncontrolled-end, uncontrolled-past}
use Rattle.am_timeline.proofs.json.object.push_uncontrolled.Goals as goal

pub loop-c-preserved : goal.loop-c-preserved
loop-c-preserved c =
    let here = chars_rest c.loop-c.c-iterator in
    let rest = chars_rest c.next.new.self in
    let step = c.in-Some.ensures.steps.0 in
    record {
      text = ap (λ t. t ++ uncontrolled rest) c.in_ok-push_char.ensures
          ∙ append_assoc (string_bytes c.loop-c.out) (char_uncontrolled c.in-Some.c) (uncontrolled rest)
          ∙ ap (λ t. string_bytes c.loop-c.out ++ t) (sym (uncontrolled-past here rest c.in-Some.c c.loop-c.invariant.is_text step))
          ∙ c.loop-c.invariant.text;
      is_text = IsUtf8-past_char here rest c.in-Some.c c.loop-c.invariant.is_text step;
    }

pub returns : goal.returns
returns c =
    sym (ap (λ t. string_bytes c.loop-c.out ++ t) (uncontrolled-end (chars_rest c.loop-c.c-iterator) c.in-None.ensures.steps.0.0)
    ∙ append-nil (string_bytes c.loop-c.out))
    ∙ c.loop-c.invariant.text
