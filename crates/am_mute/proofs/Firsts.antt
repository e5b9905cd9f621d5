-- The first that passes a test is there exactly where one passes.
use Rattle.std.proofs.Common.{◌≡◌, ℕ, ◌+◌, ◌<◌, ◌≤◌, suc, Bool, true, false, ◌||◌, ◌&&◌, cond, List, [], ◌∷◌, ◌++◌, length, get_or, take}
use Rattle.std.proofs.Common.{drop, arith, Some, None, Option, is_some, find, option_map, sym, ap, ◌∙◌, refl, if◌then◌else◌}
use Rattle.std.specs.List.{list_any}
use Rattle.std.specs.Option.{option_or}
use Rattle.std.proofs.Math.Seq.{drop-cons}
use Rattle.std.proofs.lemmas.List.{take-append-drop, take_more, take_all, length-take-le}
use Rattle.am_alerts.specs.AlertData.{AlertData}
use Rattle.am_alerts.specs.Matcher.{match_all}
use Rattle.am_alerts.specs.declared.labels.Label.{Label}
use Rattle.am_mute.specs.Inhibit.{RuleData, inhibits, is_inhibited, is_inhibited_by, source_for}
use Rattle.am_mute.specs.Mute.{inhibition_from}
use Rattle.am_mute.specs.declared.mute.MuteCause.TheVariants.{Inhibited}

pub is_some-find : {X : Type 0} (p : X → Bool) (xs : List X) → is_some (find p xs) ≡ list_any p xs
is_some-find p [] = refl
is_some-find p (x ∷ xs) = elim (p x) as (λ b. is_some (cond b (Some x) (find p xs)) ≡ b || list_any p xs) [
  | true ↦ refl
  | false ↦ is_some-find p xs
]

-- a rule has a source exactly where it mutes
pub is_some-source_for : (r : RuleData) (t : ℕ) (known : List AlertData) (labels : List Label)
    → is_some (source_for r t known labels) ≡ inhibits r t known labels
is_some-source_for r t known labels =
    elim (match_all r.target labels) as
    (λ b. is_some (if b then find (is_inhibited_by r t labels) known else None) ≡ b && list_any (λ a. is_inhibited_by r t labels a)
    known) [
      | true ↦ is_some-find (is_inhibited_by r t labels) known
      | false ↦ refl
    ]

or-assoc : {X : Type 0} (o p q : Option X) → option_or (option_or o p) q ≡ option_or o (option_or p q)
or-assoc (Some x) p q = refl
or-assoc None p q = refl

either-some : {X Y : Type 0} (f : X → Y) (o : Option X) (p : Option Y) → is_some (option_or (option_map f o) p) ≡ is_some o || is_some p
either-some f (Some x) p = refl
either-some f None p = refl

-- rules have a cause exactly where one of them mutes
pub is_some-inhibition_from : (n : ℕ) (labels : List Label) (t : ℕ) (known : List AlertData) (rules : List RuleData)
    → is_some (inhibition_from n labels t known rules) ≡ is_inhibited labels t rules known
is_some-inhibition_from n labels t known [] = refl
is_some-inhibition_from n labels t known (r ∷ rules) =
    either-some (λ (a : AlertData). Inhibited n a.labels) (source_for r t known labels) (inhibition_from (n + 1) labels t known rules)
    ∙ (ap (λ b. b || is_some (inhibition_from (n + 1) labels t known rules)) (is_some-source_for r t known labels)
    ∙ ap (λ b. inhibits r t known labels || b) (is_some-inhibition_from (n + 1) labels t known rules))

module _ (labels : List Label) (t : ℕ) (known : List AlertData) where
  -- rules behind others are asked where none of those mutes
  causes-append : (n : ℕ) (xs ys : List RuleData)
      → inhibition_from n labels t known (xs ++ ys) ≡ option_or (inhibition_from n labels t known xs)
      (inhibition_from (n + length xs) labels t known ys)
  causes-append n [] ys = ap (λ m. inhibition_from m labels t known ys) (omega arith)
  causes-append n (r ∷ rules) ys =
      let fact = option_map (λ (a : AlertData). Inhibited n a.labels) (source_for r t known labels) in
      ap (option_or fact) (causes-append (n + 1) rules ys
      ∙ ap (λ m. option_or (inhibition_from (n + 1) labels t known rules) (inhibition_from m labels t known ys)) (omega arith))
      ∙ sym (or-assoc fact (inhibition_from (n + 1) labels t known rules) (inhibition_from (n + length (r ∷ rules)) labels t known ys))

  module _ (rules : List RuleData) (i : ℕ) (r : RuleData) (within : i < length rules) (here : r ≡ get_or rules i r)
      (none : inhibition_from 0 labels t known (take i rules) ≡ None) where
    counted : 0 + length (take i rules) ≡ i
    counted = omega (arith, length-take-le i rules)

    -- the rule that mutes, after none that does
    pub inhibition-here : (a : AlertData) → source_for r t known labels ≡ Some a
        → inhibition_from 0 labels t known rules ≡ Some (Inhibited i a.labels)
    inhibition-here a source =
        let split : rules ≡ take i rules ++ (r ∷ drop (suc i) rules) =
        sym (take-append-drop i rules) ∙ ap (λ rest. take i rules ++ rest)
        (drop-cons rules i r within ∙ ap (λ y. y ∷ drop (suc i) rules) (sym here)) in
        ap (inhibition_from 0 labels t known) split ∙ (causes-append 0 (take i rules) (r ∷ drop (suc i) rules)
        ∙ (ap (λ o. option_or o (inhibition_from (0 + length (take i rules)) labels t known (r ∷ drop (suc i) rules))) none
        ∙ (ap (λ m. inhibition_from m labels t known (r ∷ drop (suc i) rules)) counted
        ∙ ap (λ o. option_or (option_map (λ (a : AlertData). Inhibited i a.labels) o)
        (inhibition_from (i + 1) labels t known (drop (suc i) rules))) source)))

    -- one rule more that doesn't
    pub inhibition-more : source_for r t known labels ≡ None → inhibition_from 0 labels t known (take (i + 1) rules) ≡ None
    inhibition-more source =
        ap (inhibition_from 0 labels t known) (take_more rules i r within ∙ ap (λ y. take i rules ++ (y ∷ [])) (sym here))
        ∙ (causes-append 0 (take i rules) (r ∷ [])
        ∙ (ap (λ o. option_or o (inhibition_from (0 + length (take i rules)) labels t known (r ∷ []))) none
        ∙ ap (λ o. option_or (option_map (λ (a : AlertData). Inhibited (0 + length (take i rules)) a.labels) o) None) source))

  -- no rule mutes, if none did up to the end
  pub inhibition-none : (rules : List RuleData) (i : ℕ) → length rules ≤ i → inhibition_from 0 labels t known (take i rules) ≡ None
      → inhibition_from 0 labels t known rules ≡ None
  inhibition-none rules i past none = sym (ap (inhibition_from 0 labels t known) (take_all i rules past)) ∙ none
