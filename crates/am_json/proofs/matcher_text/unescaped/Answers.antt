use Rattle.std.proofs.Common.{rules, ◌≡◌, ◌∙◌, ◌++◌, ◌∷◌, [], false, length, option_map, string_bytes, ap, sym, arith}
use Rattle.std.proofs.lemmas.Bool.{eqb-true}
use Rattle.std.proofs.lemmas.List.{append-nil}
use Rattle.std.proofs.lemmas.Str.Pattern.{contains_char, split_parts}
use Rattle.std.specs.Prelude.{Some, None}
use Rattle.am_json.specs.MatcherText.{Lacks, unescaped}
use Rattle.am_json.proofs.MatcherTexts.{lacks_from, unescaped_end, unescaped_first, unescaped_last, unescaped_quote, unescaped_step}
use Rattle.am_json.proofs.matcher_text.unescaped.Goals as goal

pub loop-plain-init : goal.loop-plain-init
loop-plain-init c = record {
  holds = unescaped_first (string_bytes c.new-value.result) (unescaped false c.args.written.now) c.new-value.ensures.bytes;
  text = search rules;
}

pub loop-plain-preserved : goal.loop-plain-preserved
loop-plain-preserved c =
    let l = c.loop-plain in
    let plain = c.in-Some.plain.now in
    let left = c.in_ok-rest.rest.now in
    let parts = split_parts 92 l.rest.now (Some (c.in-Some.plain, c.in-Some.behind)) c.in-Some.ensures.cases (omega arith) in
    let quote : Lacks 34 plain =
    lacks_from 34 plain c.contains.result (contains_char 34 plain c.contains.result c.contains.ensures.cases (omega arith)).1 c.if-contains.false in
    let added = c.in_ok-rest.ensures.holds in
    let bytes : string_bytes c.push_escaped.new.value ≡ (string_bytes l.value ++ plain) ++ added.0 =
    added.1 ∙ ap (λ v. v ++ added.0) c.in_ok-push_str.ensures.bytes in
    record {
      holds =
          l.invariant.holds
          ∙ unescaped_step (string_bytes l.value) plain added.0 l.rest.now c.in-Some.behind.now left parts.0 parts.1 quote added.2
          ∙ ap (λ v. option_map (λ r. v ++ r) (unescaped false left)) (sym bytes);
      text = search rules;
    }

pub returns-then-contains : goal.returns-then-contains
returns-then-contains c =
    let l = c.loop-plain in
    let plain = c.in-Some.plain.now in
    let parts = split_parts 92 l.rest.now (Some (c.in-Some.plain, c.in-Some.behind)) c.in-Some.ensures.cases (omega arith) in
    let found = (contains_char 34 plain c.contains.result c.contains.ensures.cases (omega arith)).0 c.if-contains.true in
    let none : unescaped false l.rest.now ≡ None =
    ap (unescaped false) parts.0 ∙ unescaped_quote plain (92 ∷ c.in-Some.behind.now) found.0 parts.1 found.1 found.2 in
    sym (l.invariant.holds ∙ ap (option_map (λ r. string_bytes l.value ++ r)) none)

pub returns-then-is_empty : goal.returns-then-is_empty
returns-then-is_empty c =
    let l = c.loop-plain in
    let plain = c.in-Some.plain.now in
    let behind = c.in-Some.behind.now in
    let parts = split_parts 92 l.rest.now (Some (c.in-Some.plain, c.in-Some.behind)) c.in-Some.ensures.cases (omega arith) in
    let quote : Lacks 34 plain =
    lacks_from 34 plain c.contains.result (contains_char 34 plain c.contains.result c.contains.ensures.cases (omega arith)).1 c.if-contains.false in
    let empty : length behind ≡ 0 = eqb-true (length behind) 0 (sym c.is_empty.ensures ∙ c.if-is_empty.true) in
    let none : unescaped false l.rest.now ≡ None = ap (unescaped false) parts.0 ∙ unescaped_end plain behind empty parts.1 quote in
    sym (l.invariant.holds ∙ ap (option_map (λ r. string_bytes l.value ++ r)) none)

pub returns-then-contains-2 : goal.returns-then-contains-2
returns-then-contains-2 c =
    let l = c.loop-plain in
    let rest = l.rest.now in
    let slash : Lacks 92 rest = split_parts 92 rest None c.in_default.ensures.cases (omega arith) in
    let found = (contains_char 34 rest c.contains-2.result c.contains-2.ensures.cases (omega arith)).0 c.if-contains-2.true in
    let none : unescaped false rest ≡ None = ap (unescaped false) (sym (append-nil rest)) ∙ unescaped_quote rest [] found.0 slash found.1 found.2 in
    sym (l.invariant.holds ∙ ap (option_map (λ r. string_bytes l.value ++ r)) none)

pub returns : goal.returns
returns c =
    let l = c.loop-plain in
    let rest = l.rest.now in
    let slash : Lacks 92 rest = split_parts 92 rest None c.in_default.ensures.cases (omega arith) in
    let quote : Lacks 34 rest =
    lacks_from 34 rest c.contains-2.result (contains_char 34 rest c.contains-2.result c.contains-2.ensures.cases (omega arith)).1 c.if-contains-2.false in
    ap Some c.in_ok-push_str-2.ensures.bytes ∙ sym (l.invariant.holds ∙ unescaped_last (string_bytes l.value) rest slash quote)
