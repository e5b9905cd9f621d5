-- What a removal leaves of the list of what is seen of each element.
use Rattle.std.proofs.Common.{◌≡◌, ◌-◌, Bool, true, false, cond, not, List, [], ◌∷◌, length, map, count_by, refl, ap, arith}
use Rattle.std.proofs.lemmas.List.{length-map}
use Rattle.std.proofs.lemmas.List.Filters.{length-filter_both}
use Rattle.std.proofs.lemmas.List.Sums.{length-filter}
use Rattle.am_model.specs.Lists.{without}

module _ {X Y : Type 0} (f : X → Y) (test : Y → Bool) where
  -- what is seen of those that stay
  pub map-without : (xs : List X) → map f (without (λ x. test (f x)) xs) ≡ without test (map f xs)
  map-without [] = refl
  map-without (x ∷ xs) =
      elim (not (test (f x))) as (λ b. map f (cond b (x ∷ without (λ x. test (f x)) xs) (without (λ x. test (f x)) xs)) ≡ cond b (f x ∷ without test (map f xs)) (without test (map f xs))) [
        | true ↦ ap (λ ys. f x ∷ ys) (map-without xs)
        | false ↦ map-without xs
      ]

  -- how many go
  pub count-without : (xs : List X) → length xs - length (without (λ x. test (f x)) xs) ≡ count_by test (map f xs)
  count-without xs =
      let kept = ap (λ ys. length ys) (map-without xs) in
      let both = length-filter_both test (λ y. not (test y)) (λ y. refl) (map f xs) in
      omega (arith, kept, both, length-map xs f, length-map (without (λ x. test (f x)) xs) f, length-filter test (map f xs))
