-- A list whose elements are written one after the other.
use Rattle.std.proofs.Common.{◌≡◌, ◌∙◌, ℕ, zero, suc, ◌+◌, ◌<◌, List, [], ◌∷◌, ◌++◌, length, get_or, set, take, drop, map, refl, ap, arith}

-- the first n are written, and the others are as they were
abbrev pub written_to : {X : Type 0} → (X → X) → ℕ → List X → List X
written_to f n xs = map f (take n xs) ++ drop n xs

at_next : {X : Type 0} (f : X → X) (xs : List X) (n : ℕ) (d : X) → n < length xs → get_or (written_to f n xs) n d ≡ get_or xs n d
at_next f [] n d there = absurd (omega (arith, there))
at_next f (x ∷ xs) zero d there = refl
at_next f (x ∷ xs) (suc n) d there = at_next f xs n d (omega (arith, there))

next : (n : ℕ) → suc (n + 1) ≡ suc n + 1
next n = omega arith

set_next : {X : Type 0} (f : X → X) (xs : List X) (n : ℕ) (d : X) → n < length xs → set (written_to f n xs) n (f (get_or xs n d)) ≡ written_to f (n + 1) xs
set_next f [] n d there = absurd (omega (arith, there))
set_next f (x ∷ xs) zero d there = refl
set_next f (x ∷ xs) (suc n) d there =
    ap (λ ys. f x ∷ ys) (set_next f xs n d (omega (arith, there))) ∙ ap (λ k. written_to f k (x ∷ xs)) (next n)

-- one more is written
pub one_written : {X : Type 0} (f : X → X) (xs ys : List X) (n : ℕ) (x y : X) → n < length xs → ys ≡ written_to f n xs → x ≡ get_or ys n x → y ≡ f x
    → set ys n y ≡ written_to f (n + 1) xs
one_written {X} f xs ys n x y there so_far is write =
    let same : x ≡ get_or xs n x = is ∙ (ap (λ (zs : List X). get_or zs n x) so_far ∙ at_next f xs n x there) in
    ap (λ (z : X). set ys n z) (write ∙ ap f same) ∙ (ap (λ (zs : List X). set zs n (f (get_or xs n x))) so_far ∙ set_next f xs n x there)
