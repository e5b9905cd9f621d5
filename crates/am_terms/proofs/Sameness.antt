-- Lists are the same where their elements are, by a test.
use Rattle.std.proofs.Common.{◌≡◌, ◌∙◌, Bool, List, true, sym, subst}
use Rattle.std.specs.Prelude.{◌↔◌}
use Rattle.std.specs.Cmp.Lexicographic.{pointwise, pointwise_decides}

module _ {X : Type 0} {E : X → X → Bool} where
  -- lists are the same where a test says so and only there, if it says of elements that they are and holds of each with itself
  pub equal_same : ((a : X) → E a a ≡ true) → ((a b : X) → E a b ≡ true → a ≡ b) → (xs ys : List X) (r : Bool)
      → r ≡ pointwise E xs ys → (r ≡ true) ↔ (xs ≡ ys)
  equal_same own each xs ys r is =
      let same = pointwise_decides (λ a b. (each a b, λ e. subst (λ c. E a c ≡ true) e (own a))) xs ys in
      (λ h. same.0 (sym is ∙ h), λ e. is ∙ same.1 e)
