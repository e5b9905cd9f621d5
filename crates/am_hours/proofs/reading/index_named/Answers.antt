use Rattle.std.proofs.Common.{◌≡◌, ℕ, ◌<◌, false, List, [], map, length, get_or, Some, Bor, ap, ◌∙◌, arith}
use Rattle.std.specs.Str.{str_eq_ignore_ascii_case}
use borrow.Author.Count.{below_more}
use Rattle.std.proofs.lemmas.List.{get_or-map, length-map}
use Rattle.am_hours.proofs.Named.{named_none, named_some, other_letters, same_letters}
use Rattle.am_hours.proofs.reading.index_named.Goals as goal

text_at : (names : List (Bor (List ℕ))) (i : ℕ) → i < length names
    → get_or (map (λ name. name.now) names) i [] ≡ (get_or names i (record { ref_ptr = (0, 0); now = [] })).now
text_at names i l = get_or-map (λ (name : Bor (List ℕ)). name.now) names i (record { ref_ptr = (0, 0); now = [] }) [] l

pub loop-name-preserved : goal.loop-name-preserved
loop-name-preserved c =
    let text = c.args.text.now in
    let names = c.args.names.now in
    let at = c.loop-name.name-index in
    let here = ap (str_eq_ignore_ascii_case text) (text_at names at c.loop-name-test.true)
    ∙ other_letters text _ c.eq_ignore_ascii_case.result c.if-eq_ignore_ascii_case.false c.eq_ignore_ascii_case.ensures.test.1 in
    record {
      index = omega (arith, c.loop-name.invariant.index);
      none = below_more (λ (k : ℕ). str_eq_ignore_ascii_case text (get_or (map (λ name. name.now) names) k []) ≡ false) at
          c.loop-name.invariant.none here;
    }

pub returns-then-eq_ignore_ascii_case-clause-value : goal.returns-then-eq_ignore_ascii_case-clause-value
returns-then-eq_ignore_ascii_case-clause-value c =
    let text = c.args.text.now in
    let names = c.args.names.now in
    let at = c.loop-name.name-index in
    let here = ap (str_eq_ignore_ascii_case text) (text_at names at c.loop-name-test.true)
    ∙ same_letters text _ (c.eq_ignore_ascii_case.ensures.test.0 c.if-eq_ignore_ascii_case.true) in
    ap Some c.loop-name.invariant.index
    ∙ named_some (map (λ name. name.now) names) text at (omega (arith, length-map names (λ (name : Bor (List ℕ)). name.now), c.loop-name-test.true))
    c.loop-name.invariant.none here

pub returns-clause-value : goal.returns-clause-value
returns-clause-value c =
    let names = c.args.names.now in
    named_none (map (λ name. name.now) names) c.args.text.now c.loop-name.name-index
    (omega (arith, length-map names (λ (name : Bor (List ℕ)). name.now), c.loop-name-test.false, c.loop-name.auto.name-index-end))
    c.loop-name.invariant.none
