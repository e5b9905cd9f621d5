use Rattle.std.proofs.Common.{[], ◌∷◌, ◌++◌, ap, ◌∙◌, string_bytes, arith}
use Rattle.std.proofs.lemmas.Str.{encode_ascii}
use Rattle.std.proofs.lemmas.Str.Pattern.{strip_prefix_char}
use Rattle.std.specs.Prelude.{None}
use Rattle.am_json.proofs.MatcherTexts.{unescaped_other}
use Rattle.am_json.proofs.matcher_text.push_escaped.Goals as goal

pub returns-in-None-clause-holds : goal.returns-in-None-clause-holds
returns-in-None-clause-holds c =
    let behind = c.args.behind.now in (
      92 ∷ [],
      c.in_ok-push-3.ensures.bytes ∙ ap (λ l. string_bytes c.args.value.now ++ l) (encode_ascii 92 (omega arith)),
      unescaped_other behind c.requires
          (strip_prefix_char 110 behind None c.in_default.ensures.cases (omega arith))
          (strip_prefix_char 34 behind None c.in_default-strip_prefix.ensures.cases (omega arith))
          (strip_prefix_char 92 behind None c.in-None.ensures.cases (omega arith)),
    )
