-- Each recorded outcome leaves one notice less without one.
use Rattle.std.proofs.Common.{◌≡◌, ℕ, ◌<◌, ◌≤◌, Bool, true, false, cond, eqb, Some, is_some, List, [], ◌∷◌, ◌++◌, length, refl, ap, ◌∙◌, arith, eqb-true}
use Rattle.am_retry.specs.declared.outcome.Outcome.{Outcome}
use Rattle.am_model.specs.Notice.{NoticeData, has_something_for}
use Rattle.am_model.specs.Ticket.{outcome_of, count_unreported}

-- what is recorded first stays
kept : (outcomes : List (ℕ × Outcome)) (p : ℕ × Outcome) (i : ℕ) → is_some (outcome_of outcomes i) ≡ true → is_some (outcome_of (outcomes ++ p ∷ []) i) ≡ true
kept [] p i h = grind arith
kept ((j, o) ∷ outcomes) p i h = elim (eqb j i) as (λ b. is_some (cond b (Some o) (outcome_of outcomes i)) ≡ true → is_some (cond b (Some o) (outcome_of (outcomes ++ p ∷ []) i)) ≡ true) [ true ↦ λ _. refl | false ↦ λ g. kept outcomes p i g ] h

-- what is recorded is found
found : (outcomes : List (ℕ × Outcome)) (i : ℕ) (o : Outcome) → is_some (outcome_of (outcomes ++ (i, o) ∷ []) i) ≡ true
found [] i o = grind arith
found ((j, o') ∷ outcomes) i o = elim (eqb j i) as (λ b. is_some (cond b (Some o') (outcome_of (outcomes ++ (i, o) ∷ []) i)) ≡ true) [ true ↦ refl | false ↦ found outcomes i o ]

-- whether there is an outcome, as a number
missing : Bool → ℕ
missing b = cond b 0 1

falls : (a b : Bool) → (a ≡ true → b ≡ true) → cond b 0 1 ≤ cond a 0 1
falls true true h = omega arith
falls true false h = let no : false ≡ true = h refl in cc
falls false true h = omega arith
falls false false h = omega arith

-- no notice loses its outcome
never_more : (outcomes : List (ℕ × Outcome)) (p : ℕ × Outcome) (ns : List NoticeData) → count_unreported (outcomes ++ p ∷ []) ns ≤ count_unreported outcomes ns
never_more outcomes p [] = omega arith
never_more outcomes p (n ∷ ns) =
    let here = falls (is_some (outcome_of outcomes n.integration)) (is_some (outcome_of (outcomes ++ p ∷ []) n.integration)) (kept outcomes p n.integration) in
    omega (arith, here, never_more outcomes p ns)

-- at most as many have none as there are
pub count_unreported-le-length : (outcomes : List (ℕ × Outcome)) (ns : List NoticeData) → count_unreported outcomes ns ≤ length ns
count_unreported-le-length outcomes [] = omega arith
count_unreported-le-length outcomes (n ∷ ns) =
    let here = falls false (is_some (outcome_of outcomes n.integration)) (λ (h : false ≡ true). cc) in
    omega (arith, here, count_unreported-le-length outcomes ns)

-- the first notice is the one that is reported
this_one : (outcomes : List (ℕ × Outcome)) (i : ℕ) (o : Outcome) (n : NoticeData) (ns : List NoticeData) → eqb n.integration i ≡ true → is_some (outcome_of outcomes i) ≡ false → count_unreported (outcomes ++ (i, o) ∷ []) (n ∷ ns) < count_unreported outcomes (n ∷ ns)
this_one outcomes i o n ns same none =
    let at : n.integration ≡ i = eqb-true n.integration i same in
    let before : is_some (outcome_of outcomes n.integration) ≡ false = ap (λ j. is_some (outcome_of outcomes j)) at ∙ none in
    let after : is_some (outcome_of (outcomes ++ (i, o) ∷ []) n.integration) ≡ true = ap (λ j. is_some (outcome_of (outcomes ++ (i, o) ∷ []) j)) at ∙ found outcomes i o in
    let rest = never_more outcomes (i, o) ns in
    rw (before, after) (omega (arith, rest))

-- it is a later one
later : (outcomes : List (ℕ × Outcome)) (i : ℕ) (o : Outcome) (n : NoticeData) (ns : List NoticeData) → (has_something_for (n ∷ ns) i ≡ true) → eqb n.integration i ≡ false → (has_something_for ns i ≡ true → count_unreported (outcomes ++ (i, o) ∷ []) ns < count_unreported outcomes ns) → count_unreported (outcomes ++ (i, o) ∷ []) (n ∷ ns) < count_unreported outcomes (n ∷ ns)
later outcomes i o n ns here other rest_falls =
    let among : has_something_for ns i ≡ true = rw other at here in
    let first = falls (is_some (outcome_of outcomes n.integration)) (is_some (outcome_of (outcomes ++ (i, o) ∷ []) n.integration)) (kept outcomes (i, o) n.integration) in
    let rest = rest_falls among in
    omega (arith, first, rest)

-- a report on a notice without an outcome
pub one_reported : (outcomes : List (ℕ × Outcome)) (i : ℕ) (o : Outcome) (ns : List NoticeData) → has_something_for ns i ≡ true → is_some (outcome_of outcomes i) ≡ false → count_unreported (outcomes ++ (i, o) ∷ []) ns < count_unreported outcomes ns
one_reported outcomes i o [] here none = cc
one_reported outcomes i o (n ∷ ns) here none =
    elim (eqb n.integration i) as (λ b. eqb n.integration i ≡ b → count_unreported (outcomes ++ (i, o) ∷ []) (n ∷ ns) < count_unreported outcomes (n ∷ ns)) [
      | true ↦ λ same. this_one outcomes i o n ns same none
      | false ↦ λ other. later outcomes i o n ns here other (λ among. one_reported outcomes i o ns among none)
    ] refl
