use Rattle.std.proofs.Common.{◌≡◌, ◌∷◌, inl, inr, refl, arith}
use Rattle.std.proofs.lemmas.Str.Pattern.{contains_char, strip_prefix_char, strip_suffix_char}
use Rattle.std.specs.Prelude.{None, Some}
use Rattle.am_json.proofs.MatcherTexts.{lacks_from, none_unquoted, quoted_in}
use Rattle.am_json.proofs.matcher_text.without_quotes.Goals as goal
use Rattle.am_json.proofs.matcher_text.without_quotes.Goals.{then-contains, else-contains}

pub returns-in-Some : goal.returns-in-Some
returns-in-Some c =
    let written = c.args.written.now in
    let quoted = c.in-Some.quoted in
    let is : written ≡ 34 ∷ quoted.now = strip_prefix_char 34 written (Some quoted) c.in-Some.ensures.cases (omega arith) in
    quoted_in written quoted.now c.strip_suffix.result is (strip_suffix_char 34 quoted.now c.strip_suffix.result c.strip_suffix.ensures.cases (omega arith))

pub returns-in-None-2 : goal.returns-in-None-2
returns-in-None-2 c =
    let written = c.args.written.now in
    elim c.if-contains.branch [
      | then-contains w ↦ absurd (cc)
      | else-contains w ↦
          inr (
            refl,
            lacks_from 34 written c.contains.result (contains_char 34 written c.contains.result c.contains.ensures.cases (omega arith)).1 w.if-contains.false,
            lacks_from 44 written w.contains-else-contains.result
                (contains_char 44 written w.contains-else-contains.result w.contains-else-contains.ensures.cases (omega arith)).1 (cc),
          )
    ]

-- a quote or a comma in a text that doesn't begin with a quote
pub returns-in-None : goal.returns-in-None
returns-in-None c inner unquoted =
    let written = c.args.written.now in
    let plain = strip_prefix_char 34 written None c.in-None.ensures.cases (omega arith) in
    elim c.if-contains.branch [
      | then-contains w ↦
          let found = (contains_char 34 written c.contains.result c.contains.ensures.cases (omega arith)).0 w.if-contains.true in
          none_unquoted written inner 34 found.0 plain (inl refl) found.1 found.2 unquoted
      | else-contains w ↦
          let found = (contains_char 44 written w.contains-else-contains.result w.contains-else-contains.ensures.cases (omega arith)).0 (cc) in
          none_unquoted written inner 44 found.0 plain (inr refl) found.1 found.2 unquoted
    ]
