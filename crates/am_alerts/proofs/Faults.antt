-- The first fault of a list, as a loop comes to it.
use Rattle.std.proofs.Common.{◌≡◌, ℕ, ◌+◌, ◌<◌, ◌≤◌, suc, List, [], ◌∷◌, ◌++◌, length, map, get_or, take, drop, Option, Some, None, Ok, Err}
use Rattle.std.proofs.Common.{sym, refl, ap, ◌∙◌}
use Rattle.std.specs.Option.{option_or}
use Rattle.std.proofs.Math.Seq.{drop-cons}
use Rattle.std.proofs.lemmas.List.{take-append-drop, take_more, take_all}
use Rattle.am_alerts.specs.Fault.{ok_unless, first_fault}

-- a value that was made had no fault
pub none_from_ok : {F T : Type 0} (fault : Option F) (value : T) → ok_unless fault value ≡ Ok value → fault ≡ None
none_from_ok None value made = refl
none_from_ok (Some f) value made = cc

-- a value that was refused had that fault
pub some_from_err : {F T : Type 0} (fault : Option F) (value : T) (f : F) → Err f ≡ ok_unless fault value → fault ≡ Some f
some_from_err None value f refused = absurd (cc)
some_from_err (Some g) value f refused = cc

-- no fault among two
pub none_of_both : {F : Type 0} (a b : Option F) → option_or a b ≡ None → (a ≡ None) × (b ≡ None)
none_of_both None b e = (refl, e)
none_of_both (Some f) b e = absurd (cc)

option_or_assoc : {F : Type 0} (a b c : Option F) → option_or (option_or a b) c ≡ option_or a (option_or b c)
option_or_assoc None b c = refl
option_or_assoc (Some f) b c = refl

module _ {X F : Type 0} (fault_of : X → Option F) where
  pub first_fault-append : (xs ys : List X)
      → first_fault fault_of (xs ++ ys) ≡ option_or (first_fault fault_of xs) (first_fault fault_of ys)
  first_fault-append [] ys = refl
  first_fault-append (x ∷ xs) ys = ap (option_or (fault_of x)) (first_fault-append xs ys)
      ∙ sym (option_or_assoc (fault_of x) (first_fault fault_of xs) (first_fault fault_of ys))

  pub first_fault-map : {Y : Type 0} (f : Y → X) (ys : List Y) → first_fault fault_of (map f ys) ≡ first_fault (λ y. fault_of (f y)) ys
  first_fault-map f [] = refl
  first_fault-map f (y ∷ ys) = ap (option_or (fault_of (f y))) (first_fault-map f ys)

  -- none, if there was none up to the end
  pub first_fault_none : (xs : List X) (i : ℕ) → length xs ≤ i → first_fault fault_of (take i xs) ≡ None → first_fault fault_of xs ≡ None
  first_fault_none xs i past none = sym (ap (first_fault fault_of) (take_all i xs past)) ∙ none

  module _ (xs : List X) (i : ℕ) (x d : X) (within : i < length xs) (here : x ≡ get_or xs i d)
      (none : first_fault fault_of (take i xs) ≡ None) where
    -- a fault, after none
    pub first_fault_here : (f : F) → fault_of x ≡ Some f → first_fault fault_of xs ≡ Some f
    first_fault_here f fault =
        let split : xs ≡ take i xs ++ (x ∷ drop (suc i) xs) =
        sym (take-append-drop i xs) ∙ ap (λ r. take i xs ++ r) (drop-cons xs i d within ∙ ap (λ y. y ∷ drop (suc i) xs) (sym here)) in
        ap (first_fault fault_of) split ∙ first_fault-append (take i xs) (x ∷ drop (suc i) xs)
        ∙ ap (λ o. option_or o (option_or (fault_of x) (first_fault fault_of (drop (suc i) xs)))) none
        ∙ ap (λ o. option_or o (first_fault fault_of (drop (suc i) xs))) fault

    -- one more element with none
    pub first_fault_more : fault_of x ≡ None → first_fault fault_of (take (i + 1) xs) ≡ None
    first_fault_more fine =
        ap (first_fault fault_of) (take_more xs i d within ∙ ap (λ y. take i xs ++ (y ∷ [])) (sym here))
        ∙ first_fault-append (take i xs) (x ∷ [])
        ∙ ap (λ o. option_or o (option_or (fault_of x) None)) none
        ∙ ap (λ o. option_or o None) fine
