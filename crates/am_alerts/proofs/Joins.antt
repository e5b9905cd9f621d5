-- Texts of a list's items with a text between them, as a loop appends them.
use Rattle.std.proofs.Common.{◌≡◌, ℕ, ◌+◌, ◌<◌, List, [], ◌∷◌, ◌++◌, length, take, get_or, sym, ap, ◌∙◌, arith, append_assoc}
use Rattle.std.specs.List.{flat_map, join_by}
use Rattle.std.proofs.lemmas.Grind.{flat_map-append}
use Rattle.std.proofs.lemmas.List.{append-nil, length-take, take_more}

join_by-push : {X : Type 0} (f : X → List ℕ) (s : List ℕ) (ys : List X) (x : X) → 0 < length ys
    → join_by f s (ys ++ x ∷ []) ≡ (join_by f s ys ++ s) ++ f x
join_by-push f s [] x some = absurd (omega (arith, some))
join_by-push f s (y ∷ ys) x some =
    ap (λ r. f y ++ r) (flat_map-append (λ z. s ++ f z) ys (x ∷ []) ∙ ap (λ r. flat_map (λ z. s ++ f z) ys ++ r) (append-nil (s ++ f x)))
    ∙ sym (append_assoc (f y) (flat_map (λ z. s ++ f z) ys) (s ++ f x))
    ∙ sym (append_assoc (f y ++ flat_map (λ z. s ++ f z) ys) s (f x))

module _ {X : Type 0} (f : X → List ℕ) (s out old : List ℕ) (xs : List X) (i : ℕ) (x d : X)
    (within : i < length xs) (here : x ≡ get_or xs i d) (joined : out ≡ old ++ join_by f s (take i xs)) where
  one_more : take (i + 1) xs ≡ take i xs ++ x ∷ []
  one_more = take_more xs i d within ∙ ap (λ y. take i xs ++ y ∷ []) (sym here)

  -- the next item, behind others
  pub join_by-more : 0 < i → (out ++ s) ++ f x ≡ old ++ join_by f s (take (i + 1) xs)
  join_by-more some =
      ap (λ r. (r ++ s) ++ f x) joined ∙ ap (λ r. r ++ f x) (append_assoc old (join_by f s (take i xs)) s)
      ∙ append_assoc old (join_by f s (take i xs) ++ s) (f x)
      ∙ ap (λ r. old ++ r) (sym (join_by-push f s (take i xs) x (omega (arith, some, within, length-take i xs)))
      ∙ ap (λ r. join_by f s r) (sym one_more))

  -- the first item
  pub join_by-first : i ≡ 0 → out ++ f x ≡ old ++ join_by f s (take (i + 1) xs)
  join_by-first none =
      let nothing : take i xs ≡ [] = ap (λ n. take n xs) none in
      ap (λ r. r ++ f x) (joined ∙ ap (λ r. old ++ join_by f s r) nothing ∙ append-nil old)
      ∙ ap (λ r. old ++ r) (sym (append-nil (f x)))
      ∙ ap (λ r. old ++ join_by f s r) (ap (λ r. r ++ x ∷ []) (sym nothing) ∙ sym one_more)
