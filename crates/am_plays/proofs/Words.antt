-- Words about what is there, if anything is, and about all of a list.
use Rattle.std.proofs.Common.{◌≡◌, ℕ, zero, suc, List, [], ◌∷◌, remove, Option, Some, None, refl, subst}
use Rattle.std.specs.Prelude.{slice_get, slice_set}
use Rattle.std.specs.List.{AllByRecursion}
use Rattle.std.specs.Option.{IfSome, IsSomeAnd}
use Rattle.am_model.proofs.legal.EachCall.{inside}

module _ {X : Type 0} (o : Option X) where
  -- what holds of each holds of the one that is there
  pub if_each : (P : X → Type 0) → ((x : X) → o ≡ Some x → P x) → IfSome o P
  if_each P all = by o refl
    where
      by : (p : Option X) → o ≡ p → IfSome p P
      by None is = tt
      by (Some x) is = all x is

  -- and so does what follows from it
  pub if_weaker : (P Q : X → Type 0) → ((x : X) → P x → Q x) → IfSome o P → IfSome o Q
  if_weaker P Q weaker h = by o h
    where
      by : (p : Option X) → IfSome p P → IfSome p Q
      by None h = tt
      by (Some x) h = weaker x h

  -- of one that is there, by its name
  pub if_at : (x : X) → o ≡ Some x → (P : X → Type 0) → IfSome o P → P x
  if_at x is P h = subst (λ p. IfSome p P) is h

  -- of what is the same
  pub if_same : (p : Option X) → p ≡ o → (P : X → Type 0) → IfSome p P → IfSome o P
  if_same p is P h = subst (λ q. IfSome q P) is h

  -- what is there, of which something holds
  pub some_of : (P : X → Type 0) → IsSomeAnd o P → (x : X) × (o ≡ Some x) × P x
  some_of P h = by o refl h
    where
      by : (p : Option X) → o ≡ p → IsSomeAnd p P → (x : X) × (o ≡ Some x) × P x
      by None is h = absurd h
      by (Some x) is h = (x, is, h)

  -- what leads on from what is there
  pub some_both : (P Q : X → Type 0) → IfSome o (λ x. P x → Q x) → IsSomeAnd o P → IsSomeAnd o Q
  some_both P Q leads h = by o leads h
    where
      by : (p : Option X) → IfSome p (λ x. P x → Q x) → IsSomeAnd p P → IsSomeAnd p Q
      by None leads h = absurd h
      by (Some x) leads h = leads h

-- what is said of what is there
pub said : {X : Type 0} (o : Option X) (x : X) → o ≡ Some x → (P : X → Type 0) → IsSomeAnd o P → P x
said o x is P h = subst (λ p. IsSomeAnd p P) is h

-- what holds of all holds still, when one is set or goes, and of each
module _ {X : Type 0} (P : X → Type 0) where
  pub all-set : (xs : List X) (position : ℕ) (x : X) → AllByRecursion P xs → P x → AllByRecursion P (slice_set xs position x)
  all-set [] position x all h = tt
  all-set (y ∷ ys) zero x all h = (h, all.1)
  all-set (y ∷ ys) (suc position) x all h = (all.0, all-set ys position x all.1 h)

  pub all-remove : (xs : List X) (position : ℕ) → AllByRecursion P xs → AllByRecursion P (remove xs position)
  all-remove [] zero all = tt
  all-remove [] (suc position) all = tt
  all-remove (y ∷ ys) zero all = all.1
  all-remove (y ∷ ys) (suc position) all = (all.0, all-remove ys position all.1)

  pub all-get : (xs : List X) (position : ℕ) (x : X) → slice_get xs position ≡ Some x → AllByRecursion P xs → P x
  all-get [] position x is all = absurd (cc)
  all-get (y ∷ ys) zero x is all = subst P (inside y x is) all.0
  all-get (y ∷ ys) (suc position) x is all = all-get ys position x is all.1
