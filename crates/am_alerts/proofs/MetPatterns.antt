-- The patterns of the first of some matchers, from one matcher to the next.
use Rattle.std.proofs.Common.{◌≡◌, ◌<◌, ◌≤◌, ◌+◌, ◌==◌, ℕ, Bool, true, false, List, [], ◌∷◌, ◌++◌, Option, Some, None, IfSome, is_some, Bor}
use Rattle.std.proofs.Common.{length, take, drop, get_or, set, refl, sym, ap, ◌∙◌, arith}
use Rattle.std.specs.Option.{option_copied}
use Rattle.std.proofs.lemmas.Bool.Decides.{nat_tests}
use Rattle.std.proofs.lemmas.Grind.{common_steps}
use Rattle.std.proofs.lemmas.List.{append_assoc, take-append-drop, drop_more, get_or-take, get_or_at, take_at, take_more, length-append}
use Rattle.std.proofs.lemmas.List.{append-nil, get_or_push, get_or_read, set-get_or}
use Rattle.std.proofs.lemmas.List.Elements.{filter_map-append}
use Rattle.std.specs.List.{cons_option}
use Rattle.am_alerts.proofs.Compared.{passes-pattern}
use Rattle.am_alerts.specs.Matcher.{is_passed, match_all, matches_parts, passes, pattern_of}
use Rattle.am_alerts.specs.Pattern.{has_match}
use Rattle.am_alerts.specs.Searchers.{patterns_of, with_pattern, with_pattern_of, AreFirstPatterns, IsAt}
use Rattle.am_alerts.specs.declared.labels.Label.{Label}
use Rattle.am_alerts.specs.declared.matcher.MatcherParts.{MatcherParts}

-- how many patterns were reached, once a matcher's own is among them
abbrev pub past : Option (List ℕ) → ℕ → ℕ
past None count = count
past (Some p) count = count + 1

-- once the matchers before the i-th have been met: as many patterns as they have were reached, and something searches for each
pub record AreMet (ms : List MatcherParts) (i count : ℕ) (ps : List (List ℕ)) : Type 0 where
  pub counted : count ≡ length (patterns_of (take i ms))
  pub reached : count ≤ length ps
  pub first : AreFirstPatterns ps ms

-- the patterns of a list: those before an element, its own and those behind it
around : (ms : List MatcherParts) (i : ℕ) (d : MatcherParts) → i < length ms →
    patterns_of ms ≡ patterns_of (take i ms) ++ cons_option (pattern_of (get_or ms i d)) (patterns_of (drop (i + 1) ms))
around ms i d h =
    ap patterns_of (sym (take-append-drop i ms)) ∙ filter_map-append pattern_of (take i ms) (drop i ms)
    ∙ ap (λ rest. patterns_of (take i ms) ++ patterns_of rest) (drop_more ms i d h)

at_prefix : (ps before rest : List (List ℕ)) (p : List ℕ) → ps ≡ take (length ps) (before ++ p ∷ rest) →
    length before < length ps → get_or ps (length before) [] ≡ p
at_prefix ps before rest p e h =
    ap (λ xs. get_or xs (length before) []) e ∙ get_or-take (length ps) (before ++ p ∷ rest) (length before) [] h
    ∙ get_or_at before p rest [] (length before) refl

push_prefix : (before rest : List (List ℕ)) (p : List ℕ) →
    before ++ p ∷ [] ≡ take (length (before ++ p ∷ [])) (before ++ p ∷ rest)
push_prefix before rest p =
    sym (ap (take (length (before ++ p ∷ []))) (sym (append_assoc before (p ∷ []) rest)) ∙ take_at (before ++ p ∷ []) rest _ refl)

more_prefix : (ps before rest : List (List ℕ)) (p : List ℕ) → ps ≡ take (length ps) (before ++ p ∷ rest) →
    length before ≡ length ps → ps ++ p ∷ [] ≡ take (length (ps ++ p ∷ [])) (before ++ p ∷ rest)
more_prefix ps before rest p e h =
    let is : ps ≡ before = e ∙ take_at before (p ∷ rest) (length ps) h in
    rw is (push_prefix before rest p)

-- what is at the index of the next matcher's pattern is that pattern
pub is_at-met : (ms : List MatcherParts) (i : ℕ) (d : MatcherParts) (count : ℕ) (ps : List (List ℕ)) (p : List ℕ) → i < length ms →
    pattern_of (get_or ms i d) ≡ Some p → AreMet ms i count ps → IsAt count ps p
is_at-met ms i d count ps p h is met below =
    let rest = patterns_of (drop (i + 1) ms) in
    let before = patterns_of (take i ms) in
    let e : ps ≡ take (length ps) (before ++ p ∷ rest) =
    met.first ∙ ap (take (length ps)) (around ms i d h ∙ ap (λ (o : Option (List ℕ)). before ++ cons_option o rest) is) in
    let low : length before < length ps = omega arith in
    rw met.counted (at_prefix ps before rest p e low)

one_more : (ms : List MatcherParts) (i : ℕ) (d : MatcherParts) → i < length ms →
    patterns_of (take (i + 1) ms) ≡ patterns_of (take i ms) ++ cons_option (pattern_of (get_or ms i d)) []
one_more ms i d h = ap patterns_of (take_more ms i d h) ∙ filter_map-append pattern_of (take i ms) (get_or ms i d ∷ [])

-- a matcher without a pattern has been met
pub are_met-none : (ms : List MatcherParts) (i : ℕ) (d : MatcherParts) (count : ℕ) (ps : List (List ℕ)) → i < length ms →
    pattern_of (get_or ms i d) ≡ None → AreMet ms i count ps → AreMet ms (i + 1) count ps
are_met-none ms i d count ps h is met =
    let more : patterns_of (take (i + 1) ms) ≡ patterns_of (take i ms) =
    one_more ms i d h ∙ ap (λ (o : Option (List ℕ)). patterns_of (take i ms) ++ cons_option o []) is ∙ append-nil _ in
    record { counted = met.counted ∙ ap length (sym more); reached = met.reached; first = met.first }

put_reached : (p : List ℕ) (count : ℕ) (ps : List (List ℕ)) → count ≤ length ps → count + 1 ≤ length (with_pattern p count ps)
put_reached p count ps h = grind (arith, nat_tests, common_steps)

put_cases : (p : List ℕ) (ps before rest : List (List ℕ)) → ps ≡ take (length ps) (before ++ p ∷ rest) →
    (count : ℕ) → count ≡ length before → (b : Bool) → (count == length ps) ≡ b →
    with_pattern p count ps ≡ take (length (with_pattern p count ps)) (before ++ p ∷ rest)
put_cases p ps before rest e count counted true is =
    let same : length before ≡ length ps = grind (arith, nat_tests) in
    rw is (more_prefix ps before rest p e same)
put_cases p ps before rest e count counted false is = rw is e

put_first : (p : List ℕ) (count : ℕ) (ps before rest : List (List ℕ)) → ps ≡ take (length ps) (before ++ p ∷ rest) →
    count ≡ length before → with_pattern p count ps ≡ take (length (with_pattern p count ps)) (before ++ p ∷ rest)
put_first p count ps before rest e counted =
    put_cases p ps before rest e count counted (count == length ps) refl

-- a matcher with a pattern has been met
pub are_met-some : (ms : List MatcherParts) (i : ℕ) (d : MatcherParts) (count : ℕ) (ps : List (List ℕ)) (p : List ℕ) → i < length ms →
    pattern_of (get_or ms i d) ≡ Some p → AreMet ms i count ps → AreMet ms (i + 1) (count + 1) (with_pattern p count ps)
are_met-some ms i d count ps p h is met =
    let rest = patterns_of (drop (i + 1) ms) in
    let before = patterns_of (take i ms) in
    let all : patterns_of ms ≡ before ++ p ∷ rest =
    around ms i d h ∙ ap (λ (o : Option (List ℕ)). before ++ cons_option o rest) is in
    let more : patterns_of (take (i + 1) ms) ≡ before ++ p ∷ [] =
    one_more ms i d h ∙ ap (λ (o : Option (List ℕ)). before ++ cons_option o []) is in
    record {
      counted = ap (λ n. n + 1) met.counted ∙ sym (ap length more ∙ length-append before (p ∷ []));
      reached = put_reached p count ps met.reached;
      first = rw all (put_first p count ps before rest (met.first ∙ ap (take (length ps)) all) met.counted);
    }

there_by : (p : List ℕ) (index : ℕ) (ps : List (List ℕ)) → IsAt index ps p → index ≤ length ps → (b : Bool) → (index == length ps) ≡ b →
    get_or (with_pattern p index ps) index [] ≡ p
there_by p index ps at h true is =
    let end : length ps ≡ index = grind (arith, nat_tests) in
    rw is (get_or_push ps p [] index end)
there_by p index ps at h false is =
    let below : index < length ps = grind (arith, nat_tests) in
    rw is (at below)

-- what is at a pattern's index, once it was put there
pub put_there : (p : List ℕ) (index : ℕ) (ps : List (List ℕ)) → index ≤ length ps → IsAt index ps p →
    (index < length (with_pattern p index ps)) × (get_or (with_pattern p index ps) index [] ≡ p)
put_there p index ps h at = (omega (arith, put_reached p index ps h), there_by p index ps at h (index == length ps) refl)

-- what is found of the pattern at its index is what the matcher tests
pub met_value : (m : MatcherParts) (value p x : List ℕ) (index : ℕ) (old new : List (List ℕ)) → pattern_of m ≡ Some p →
    IfSome (pattern_of m) (IsAt index old) → index ≤ length old → new ≡ with_pattern p index old → x ≡ get_or new index x →
    is_passed m.op (has_match x value) ≡ passes m.op m.value value
met_value m value p x index old new is required h put read =
    let at : IsAt index old p = rw is at required in
    let there = put_there p index old h at in
    let within : index < length new = rw put there.0 in
    let x_is : x ≡ p = get_or_read new index x within read [] ∙ ap (λ xs. get_or xs index []) put ∙ there.1 in
    rw x_is (passes-pattern m value p is)

-- a search leaves what searches as it was
pub met_put : (m : MatcherParts) (p x y : List ℕ) (index : ℕ) (old new : List (List ℕ)) → pattern_of m ≡ Some p →
    new ≡ with_pattern p index old → x ≡ get_or new index x → y ≡ x → set new index y ≡ with_pattern_of (pattern_of m) index old
met_put m p x y index old new is put read same =
    ap (λ z. set new index z) (same ∙ read) ∙ set-get_or new index x ∙ put
    ∙ ap (λ (o : Option (List ℕ)). with_pattern_of o index old) (sym is)

layout_of : (ms : List MatcherParts) (i : ℕ) (d : MatcherParts) (count : ℕ) (ps : List (List ℕ)) → i < length ms → AreMet ms i count ps →
    (o : Option (List ℕ)) → pattern_of (get_or ms i d) ≡ o → IfSome o (IsAt count ps)
layout_of ms i d count ps h met None is = tt
layout_of ms i d count ps h met (Some p) is = is_at-met ms i d count ps p h is met

-- the next matcher's pattern, if it has one, is at its index
pub met_index : (ms : List MatcherParts) (i : ℕ) (m : MatcherParts) (count : ℕ) (ps : List (List ℕ)) → i < length ms →
    m ≡ get_or ms i m → AreMet ms i count ps → IfSome (pattern_of m) (IsAt count ps)
met_index ms i m count ps h read met = layout_of ms i m count ps h met (pattern_of m) (ap pattern_of (sym read))

step_of : (ms : List MatcherParts) (i : ℕ) (d : MatcherParts) (count : ℕ) (ps : List (List ℕ)) → i < length ms → AreMet ms i count ps →
    (o : Option (List ℕ)) → pattern_of (get_or ms i d) ≡ o → AreMet ms (i + 1) (past o count) (with_pattern_of o count ps)
step_of ms i d count ps h met None is = are_met-none ms i d count ps h is met
step_of ms i d count ps h met (Some p) is = are_met-some ms i d count ps p h is met

-- one matcher more has been met
pub met_step : (ms : List MatcherParts) (i : ℕ) (m : MatcherParts) (count next : ℕ) (ps new : List (List ℕ)) → i < length ms →
    m ≡ get_or ms i m → AreMet ms i count ps → new ≡ with_pattern_of (pattern_of m) count ps → next ≡ past (pattern_of m) count →
    AreMet ms (i + 1) next new
met_step ms i m count next ps new h read met put counted =
    rw (put, counted) (step_of ms i m count ps h met (pattern_of m) (ap pattern_of (sym read)))

pub past-some : (o : Option (Bor (List ℕ))) (q : Option (List ℕ)) (count : ℕ) → option_copied o ≡ q → is_some o ≡ true
    → past q count ≡ count + 1
past-some None q count is e = cc
past-some (Some x) q count is e = rw (← is) refl

pub past-none : (o : Option (Bor (List ℕ))) (q : Option (List ℕ)) (count : ℕ) → option_copied o ≡ q → is_some o ≡ false
    → past q count ≡ count
past-none None q count is e = rw (← is) refl
past-none (Some x) q count is e = cc

-- the matchers up to this one all match
pub match_more : (ms : List MatcherParts) (i : ℕ) (m : MatcherParts) (labels : List Label) → i < length ms → m ≡ get_or ms i m →
    match_all (take i ms) labels ≡ true → matches_parts m labels ≡ true → match_all (take (i + 1) ms) labels ≡ true
match_more ms i m labels h read before here = grind (arith, common_steps)
