-- The first element of a list that passes a test, as a loop comes to it.
use Rattle.std.proofs.Common.{◌≡◌, ℕ, ◌+◌, ◌<◌, ◌≤◌, suc, Bool, true, false, cond, List, [], ◌∷◌, ◌++◌, length, get_or, take, drop, Some}
use Rattle.std.proofs.Common.{None, find, filter, sym, ap, ◌∙◌}
use Rattle.std.specs.Option.{option_or}
use Rattle.std.proofs.Math.Seq.{drop-cons}
use Rattle.std.proofs.lemmas.List.{take-append-drop, take_more, take_all, append-nil}
use Rattle.std.proofs.lemmas.List.Elements.{filter-append}
use Rattle.std.proofs.lemmas.List.Folds.{find-append}

module _ {X : Type 0} (p : X → Bool) (xs : List X) (i : ℕ) (x d : X) (within : i < length xs) (here : x ≡ get_or xs i d)
    (none : find p (take i xs) ≡ None) where
  -- the element that passes, after none that does
  pub find_here : p x ≡ true → find p xs ≡ Some x
  find_here passes =
      let split : xs ≡ take i xs ++ (x ∷ drop (suc i) xs) =
      sym (take-append-drop i xs) ∙ ap (λ r. take i xs ++ r) (drop-cons xs i d within ∙ ap (λ y. y ∷ drop (suc i) xs) (sym here)) in
      ap (find p) split ∙ find-append p (take i xs) (x ∷ drop (suc i) xs)
      ∙ ap (λ o. option_or o (cond (p x) (Some x) (find p (drop (suc i) xs)))) none
      ∙ ap (λ b. cond b (Some x) (find p (drop (suc i) xs))) passes

  -- one more that doesn't
  pub find_none_more : p x ≡ false → find p (take (i + 1) xs) ≡ None
  find_none_more fails =
      ap (find p) (take_more xs i d within ∙ ap (λ y. take i xs ++ (y ∷ [])) (sym here)) ∙ find-append p (take i xs) (x ∷ [])
      ∙ ap (λ o. option_or o (cond (p x) (Some x) None)) none
      ∙ ap (λ b. cond b (Some x) None) fails

-- none passes, if none did up to the end
pub find_none_all : {X : Type 0} (p : X → Bool) (xs : List X) (i : ℕ) → length xs ≤ i → find p (take i xs) ≡ None → find p xs ≡ None
find_none_all p xs i past none = sym (ap (find p) (take_all i xs past)) ∙ none

module _ {X : Type 0} (p : X → Bool) (xs : List X) (i : ℕ) (x d : X) (within : i < length xs) (here : x ≡ get_or xs i d) where
  -- a filter keeps one more element that passes
  pub filter_more_kept : p x ≡ true → filter p (take (i + 1) xs) ≡ filter p (take i xs) ++ (x ∷ [])
  filter_more_kept passes =
      ap (filter p) (take_more xs i d within ∙ ap (λ y. take i xs ++ (y ∷ [])) (sym here)) ∙ filter-append p (take i xs) (x ∷ [])
      ∙ ap (λ b. filter p (take i xs) ++ cond b (x ∷ []) []) passes

  -- and leaves out one that doesn't
  pub filter_more_left : p x ≡ false → filter p (take (i + 1) xs) ≡ filter p (take i xs)
  filter_more_left fails =
      ap (filter p) (take_more xs i d within ∙ ap (λ y. take i xs ++ (y ∷ [])) (sym here)) ∙ filter-append p (take i xs) (x ∷ [])
      ∙ ap (λ b. filter p (take i xs) ++ cond b (x ∷ []) []) fails ∙ append-nil (filter p (take i xs))
